use Rattle.std.proofs.Common.{◌≡◌, ℕ, ◌+◌, ◌*◌, ◌<◌, length, slice_index}
use Rattle.lexauto_dfa.proofs.least.interleaving.every_other.Given as goal

abbrev pub invariant-loop-i : goal.invariant-loop-i
invariant-loop-i l = record {
  len : length l.some.items ≡ l.i;
  each : (i : ℕ) → i < l.i → slice_index l.some.items i ≡ slice_index l.both (2 * i + l.first);
}
