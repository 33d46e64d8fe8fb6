use Rattle.std.proofs.Common.{◌≡◌, ℕ, Bool, false, true, List, sym, subst, slice_index_or, slice_set}
use Rattle.lextab_packed.specs.Spreading.{Spreads}
use Rattle.lextab_packed.proofs.Spreads.{waits_now, has_waited}
use Rattle.lextab_packed.proofs.live.mark_live.Goals as goal

pub returns-in_ok-push : goal.returns-in_ok-push
returns-in_ok-push c =
    let unset : false ≡ slice_index_or c.args.live.now.items c.args.state false = subst (λ (d : Bool). d ≡ slice_index_or c.args.live.now.items c.args.state d) c.if-index.false c.index.ensures in
    subst (λ (xs : List ℕ). Spreads (λ x. x ≡ c.args.state) c.args.accepting.now c.args.live.now.items c.args.waiting.now.items (slice_set c.args.live.now.items c.args.state true) xs) (sym c.in_ok-push.ensures.items)
    (waits_now c.args.accepting.now c.args.live.now.items c.args.waiting.now.items c.args.state c.requires.state (sym unset))

pub returns-else-not-accepting-state : goal.returns-else-not-accepting-state
returns-else-not-accepting-state c =
    let unset : false ≡ slice_index_or c.args.live.now.items c.args.state false = subst (λ (d : Bool). d ≡ slice_index_or c.args.live.now.items c.args.state d) c.if-index.false c.index.ensures in
    has_waited c.args.accepting.now c.args.live.now.items c.args.waiting.now.items c.args.state c.requires.state (sym unset) c.if-not-accepting-state.false
