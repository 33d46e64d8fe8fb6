use Rattle.std.proofs.Common.{length}
use Rattle.lextab.specs.Columns.{AreSlots}
use Rattle.lextab.specs.Searching.{by_head}
use Rattle.lextab.proofs.filling.fill_all.Given as goal

abbrev pub invariant-loop-state : goal.invariant-loop-state
invariant-loop-state l = AreSlots l.state (by_head l.next l.heads) (length l.heads) l.defaults l.bases l.check l.targets
