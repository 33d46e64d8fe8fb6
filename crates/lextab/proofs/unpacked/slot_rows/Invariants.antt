use Rattle.std.proofs.Common.{◌≡◌, length}
use Rattle.lextab.specs.Searching.{by_head}
use Rattle.lextab.specs.Unpacked.{AreRowByRow}
use Rattle.lextab.proofs.unpacked.slot_rows.Given as goal

abbrev pub invariant-loop-state : goal.invariant-loop-state
invariant-loop-state l = record {
  row : length l.row.items ≡ length l.heads;
  laid : AreRowByRow (by_head l.next l.heads) (length l.heads) l.state l.bases.items l.check.items l.targets.items;
}
