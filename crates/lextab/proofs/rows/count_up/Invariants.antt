use Rattle.std.proofs.Common.{◌≡◌, ℕ, slice_index}
use Rattle.lextab.specs.Columns.{often}
use Rattle.lextab.proofs.rows.count_up.Given as goal

abbrev pub invariant-loop-target : goal.invariant-loop-target
invariant-loop-target l = (t : ℕ) → slice_index l.counts t ≡ often (slice_index l.row) l.target-index t
