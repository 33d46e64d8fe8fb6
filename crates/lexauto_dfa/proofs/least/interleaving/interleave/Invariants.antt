use Rattle.std.proofs.Common.{◌≡◌, ℕ, ◌+◌, ◌*◌, ◌<◌, length, slice_index}
use Rattle.lexauto_dfa.proofs.least.interleaving.interleave.Given as goal

abbrev pub invariant-loop-i : goal.invariant-loop-i
invariant-loop-i l = record {
  len : length l.both.items ≡ 2 * l.i;
  evens : (i : ℕ) → i < l.i → slice_index l.both.items (2 * i) ≡ slice_index l.evens i;
  odds : (i : ℕ) → i < l.i → slice_index l.both.items (2 * i + 1) ≡ slice_index l.odds i;
}
