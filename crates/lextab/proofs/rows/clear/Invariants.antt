use Rattle.std.proofs.Common.{◌≡◌, ◌≢◌, ℕ, ◌<◌, ◌≤◌, length, slice_index}
use Rattle.lextab.proofs.rows.clear.Given as goal

abbrev pub invariant-loop-target : goal.invariant-loop-target
invariant-loop-target l = (t : ℕ) → ((k : ℕ) → l.target-index ≤ k → k < length l.row → slice_index l.row k ≢ t) → slice_index l.counts t ≡ 0
