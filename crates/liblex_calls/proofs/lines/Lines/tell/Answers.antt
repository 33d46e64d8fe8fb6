use Rattle.std.proofs.Common.{◌+◌, ◌%◌, ◌^◌, Bool, ◌∷◌, [], ◌++◌, sym, subst, arith}
use Rattle.liblex_calls.specs.Lines.{Counted, Placed, IsSpotOf}
use Rattle.liblex_calls.specs.declared.lines.Lines.{Lines}
use Rattle.liblex_calls.specs.declared.lines.Spot.{Spot}
use Rattle.liblex_calls.proofs.Lining.{begins_inside, spot_is}
use Rattle.liblex_calls.proofs.lines.Lines.tell.Goals as goal

pub returns-clause-told : goal.returns-clause-told
returns-clause-told c fed tokens t counted follows start ends inside few text =
    let on = c.if-not-self.false in
    let new : Lines = c.go_on.new.self in
    let spot : Spot = record { line = (new.start.newlines + 1) % 2 ^ 64; column = (new.start.after + 1) % 2 ^ 64 } in
    let placed : Placed fed tokens c.args.self.now = subst (λ (b : Bool). Counted b fed tokens c.args.self.now) on counted in
    let moved = c.go_on.ensures.moved fed tokens t placed follows start ends (inside (begins_inside fed tokens t.start c.args.self.now placed follows)) (omega (arith, few)) text in
    subst (λ (b : Bool). Counted b fed (tokens ++ t ∷ []) new × IsSpotOf b fed t.start spot) (sym on) (moved.0, spot_is fed (tokens ++ t ∷ []) t.start new moved.0 moved.1 few)
