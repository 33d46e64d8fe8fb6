use Rattle.std.proofs.Common.{◌≡◌, ℕ, ◌<◌, length, slice_index}
use Rattle.lexauto_dfa.proofs.least.partition.numbers.Given as goal

abbrev pub invariant-loop-i : goal.invariant-loop-i
invariant-loop-i l = record {
  len : length l.numbers.items ≡ l.i;
  each : (i : ℕ) → i < l.i → slice_index l.numbers.items i ≡ i;
}
