use Rattle.std.proofs.Common.{arith}
use Rattle.lexscan_window.proofs.Marks.{among_at}
use Rattle.lexscan_matching.proofs.back.note_silent.Goals as goal

pub note_further-requires-clause-last : goal.note_further-requires-clause-last
note_further-requires-clause-last g c = c.requires.passed _ (among_at c.args.passed.now 15 _ (omega (arith, c.if-passed-ge-MOST_PASSED.true)))
