use Rattle.std.proofs.Common.{◌-◌, length}
use Rattle.lexscan_window.specs.Memos.{AreTrue}
use Rattle.lexscan_matching.proofs.back.note_passed.Given as goal

abbrev pub invariant-places : goal.invariant-places
invariant-places g l = AreTrue (g.M.Machine.machine l.fn.machine) l.reading l.memo

abbrev pub decreases-places : goal.decreases-places
decreases-places g l = length l.passed - l.index
