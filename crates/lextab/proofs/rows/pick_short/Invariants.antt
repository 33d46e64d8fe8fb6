use Rattle.std.proofs.Common.{◌≡◌, ℕ, ◌<◌, length, slice_index}
use Rattle.lextab.proofs.rows.pick_short.Given as goal

abbrev pub invariant-loop-k : goal.invariant-loop-k
invariant-loop-k l = record {
  len : length l.row ≡ length l.heads;
  each : (k : ℕ) → k < l.k → slice_index l.row k ≡ slice_index l.block (slice_index l.heads k);
}
