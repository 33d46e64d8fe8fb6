use Rattle.std.proofs.Common.{◌-◌, get_or, nat_eq, refl, subst, arith}
use Rattle.lexscan.specs.Glances.{IsTold, LeavesTold}
use Rattle.lexscan.proofs.Glancing as Glance
use Rattle.lexscan.proofs.scan.Scan.turn_at_glance.Goals as goal

pub returns-then-self : goal.returns-then-self
returns-then-self g c = (c.args.self.now.state.reading.window, refl, refl)

pub returns-in_default : goal.returns-in_default
returns-in_default g c = (c.show-shown.new.self, c.show-shown.ensures.bytes, Glance.shows_is c.args.self.now c.show-shown.new.self _)

pub returns : goal.returns
returns g c =
    let M = g.M.Machine.machine c.args.machine.now in
    let s = c.args.self.now in
    let told = subst (λ f. IsTold M f c.text-text.result.now s.state.place.condition c.in-Some.told) c.start-first.ensures.state c.in-Some.ensures.told in
    Glance.glanced M (g.M.Machine.laws c.args.machine.now) s (record s { state = c.leave_told.new.state }) c.args.waiting.now c.text-text.result.now c.told_match.ensures.text c.show-shown.new.self c.len-held.result c.show-shown.result c.max-asked.result _ c.in-Some.told told
    c.len-held.ensures c.show-shown.ensures.bytes c.show-shown.ensures.ahead c.show-shown.ensures.few c.text-text.ensures c.max-asked.ensures refl c.requires.going c.requires.kept c.if-self.false (omega (arith, c.if-self-ne0.false)) refl
    (subst (λ z. LeavesTold c.in-Some.told (nat_eq (get_or c.text-text.result.now (c.in-Some.told.keep - 1) 0) 10) (c.max-asked.result - c.len-held.result) z.state c.leave_told.new.state) (Glance.shows_is s c.show-shown.new.self _) c.leave_told.ensures)
