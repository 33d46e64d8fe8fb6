use Rattle.std.proofs.Common.{sym, subst}
use Rattle.lexscan.specs.Pulls.{TurnedOver}
use Rattle.lexscan.specs.Pushes.{IsReachable}
use Rattle.lexscan.proofs.Glancing as Glance
use Rattle.lexscan.proofs.pull.turn_over.Goals as goal

pub turn_by_reading-requires-clause-reachable : goal.turn_by_reading-requires-clause-reachable
turn_by_reading-requires-clause-reachable g c =
    let M = g.M.Machine.machine c.args.machine.now in
    let h = c.if-turn_at_glance.ensures in
    subst (λ s. IsReachable M s.state) (sym h.2) (Glance.reachable_still M c.args.scan.now h.0 h.1 c.requires.reachable)

pub returns : goal.returns
returns g c =
    let M = g.M.Machine.machine c.args.machine.now in
    let h = c.if-turn_at_glance.ensures in
    let t = c.turn_by_reading.ensures in
    let over = subst (λ s. TurnedOver M c.args.waiting.now t.0 s c.turn_by_reading.new.scan c.turn_by_reading.result) h.2 t.1 in
    (t.0, Glance.turned_still M c.args.scan.now h.0 h.1 c.args.waiting.now t.0 c.turn_by_reading.new.scan c.turn_by_reading.result over)
