use Rattle.std.proofs.lemmas.Grind.{common_steps}
use Rattle.std.proofs.Common.{arith}
use Rattle.lex_semantics.specs.Machine.{Machine}
use Rattle.lexscan_matching.proofs.Barrens as Look
use Rattle.lexscan_matching.proofs.Limiting.{carried, late_only}
use Rattle.lexscan.proofs.Settling as Turn
use Rattle.lexscan.proofs.Turning.{match_made}
use Rattle.lexscan.proofs.scan.Scan.match_over_held.Goals as goal

pub look-requires-clause-marks : goal.look-requires-clause-marks
look-requires-clause-marks g c = Look.true_fit (g.M.Machine.machine c.args.machine.now) (g.M.Machine.laws c.args.machine.now) c.args.self.now.state.reading c.args.self.now.memo c.fit.new.self (c.requires.ready.kept.marks c.requires.going.working) c.fit.ensures

pub match_past_held-requires-clause-ready : goal.match_past_held-requires-clause-ready
match_past_held-requires-clause-ready g c = record {
  may_read = c.requires.ready.may_read;
  may_write = c.requires.ready.may_write;
  kept = record { condition = c.requires.ready.kept.condition; inside = c.requires.ready.kept.inside; stack = c.requires.ready.kept.stack; marks = λ works. c.look.ensures.marks };
}

pub returns-in-Open : goal.returns-in-Open
returns-in-Open g c =
    let h = c.match_past_held.ensures in
    record { same = h.same; handed_on = h.handed_on; turn_step = h.turn_step; left = h.left; counts = h.counts; marks = h.marks; limit = h.limit }

pub returns-in-Settled : goal.returns-in-Settled
returns-in-Settled g c =
    let M : Machine = g.M.Machine.machine c.args.machine.now in
    match_made M _ _ _ _ _ (grind (arith, common_steps)) c.carry_longest.ensures.handed_on (Turn.settled_moved M (g.M.Machine.states c.args.machine.now) g.S.Source.gave g.K.Sink.wrote g.K.Sink.failures _ _ _ _ c.args.self.now.state c.carry_longest.new.state c.in-Settled.settled c.carry_longest.result (g.met.S.Source.gave_none _) c.in-Settled.ensures.ahead
    c.carry_longest.ensures.left) (grind (arith, common_steps)) (grind (arith, common_steps)) c.look.ensures.marks
    (carried M _ c.args.self.now.state.place _ _ _ (late_only _ c.carry_longest.ensures.left.refusals) (Turn.settled_asks M (g.M.Machine.states c.args.machine.now) g.S.Source.gave _ c.args.self.now.state c.in-Settled.settled (g.met.S.Source.gave_none c.args.ends.now.intake.source.now) c.in-Settled.ensures.ahead))
