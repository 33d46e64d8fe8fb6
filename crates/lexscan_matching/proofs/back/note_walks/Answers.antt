use Rattle.std.proofs.Common.{arith}
use Rattle.lexscan_matching.proofs.Barrens as Look
use Rattle.lexscan_matching.proofs.back.note_walks.Goals as goal

pub note_walk-requires-clause-passed : goal.note_walk-requires-clause-passed
note_walk-requires-clause-passed g c =
    let h = c.requires.settled in
    Look.comes_to (g.M.Machine.machine c.args.machine.now) (g.M.Machine.states c.args.machine.now) c.args.place c.args.reading.now c.marks.passed c.marks.due c.walk_on-state.result c.marks.invariant.passed
    (omega (arith, c.marks-test.true)) (omega (arith, c.if-due-reach.true, c.marks.invariant.reach, h.order, h.inside)) c.walk_on-state.ensures.state c.walk_on-state.ensures.known

pub marks-preserved : goal.marks-preserved
marks-preserved g c =
    let h = c.requires.settled in
    record {
      reach = c.marks.invariant.reach;
      passed = Look.comes_to (g.M.Machine.machine c.args.machine.now) (g.M.Machine.states c.args.machine.now) c.args.place c.args.reading.now c.marks.passed c.marks.due c.walk_on-state.result c.marks.invariant.passed
          (omega (arith, c.marks-test.true)) (omega (arith, c.if-due-reach.true, c.marks.invariant.reach, h.order, h.inside)) c.walk_on-state.ensures.state c.walk_on-state.ensures.known;
      marks = c.note_walk.ensures.marks;
    }
