use Rattle.std.proofs.Common.{◌≡◌, ℕ, ◌<◌, ◌≤◌, length, slice_index}
use Rattle.lextab.proofs.rows.most_often.Given as goal

abbrev pub invariant-loop-target : goal.invariant-loop-target
invariant-loop-target l = record {
  there : (k : ℕ) × (k < length l.row) × (slice_index l.row k ≡ l.best);
  most : (j : ℕ) → j < l.target-index → slice_index l.counts (slice_index l.row j) ≤ slice_index l.counts l.best;
  least : (j : ℕ) → j < l.target-index → slice_index l.counts (slice_index l.row j) ≡ slice_index l.counts l.best → l.best ≤ slice_index l.row j;
}
