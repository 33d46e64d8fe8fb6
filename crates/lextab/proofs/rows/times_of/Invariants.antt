use Rattle.std.proofs.Common.{◌≡◌, slice_index}
use Rattle.lextab.specs.Columns.{often}
use Rattle.lextab.proofs.rows.times_of.Given as goal

abbrev pub invariant-loop-other : goal.invariant-loop-other
invariant-loop-other l = record {
  times : l.times ≡ often (slice_index l.row) l.other-index l.target;
}
