use Rattle.std.proofs.Common.{◌≡◌, ℕ, ◌<◌, false, length, slice_index, slice_index_or}
use Rattle.lexauto_dfa.proofs.least.minimising.flags_at.Given as goal

abbrev pub invariant-loop-i : goal.invariant-loop-i
invariant-loop-i l = record {
  len : length l.some.items ≡ l.i;
  each : (k : ℕ) → k < l.i → slice_index_or l.some.items k false ≡ slice_index_or l.flags (slice_index l.places k) false;
}
