use Rattle.std.proofs.Common.{◌+◌, arith}
use Rattle.lexscan_matching.proofs.Barrens as Look
use Rattle.lexscan_matching.proofs.back.note_further.Goals as goal

pub note_place-requires-clause-passed : goal.note_place-requires-clause-passed
note_place-requires-clause-passed g c =
    Look.comes_to (g.M.Machine.machine c.args.machine.now) (g.M.Machine.states c.args.machine.now) c.args.place c.args.reading.now c.marks.passed (c.marks.passed.len + c.stride-stride.result) c.walk_on-state.result c.marks.invariant.passed (omega arith)
    (omega (arith, c.marks-test.true, c.requires.settled.inside)) c.walk_on-state.ensures.state c.walk_on-state.ensures.known

pub marks-preserved : goal.marks-preserved
marks-preserved g c = record {
  passed = Look.comes_to (g.M.Machine.machine c.args.machine.now) (g.M.Machine.states c.args.machine.now) c.args.place c.args.reading.now c.marks.passed (c.marks.passed.len + c.stride-stride.result) c.walk_on-state.result c.marks.invariant.passed (omega arith)
      (omega (arith, c.marks-test.true, c.requires.settled.inside)) c.walk_on-state.ensures.state c.walk_on-state.ensures.known;
  marks = c.note_place.ensures.marks;
}
