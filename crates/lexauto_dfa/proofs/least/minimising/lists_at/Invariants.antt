use Rattle.std.proofs.Common.{◌≡◌, ℕ, ◌<◌, length, slice_index}
use Rattle.lexauto_dfa.specs.Lists.{list_at}
use Rattle.lexauto_dfa.proofs.least.minimising.lists_at.Given as goal

abbrev pub invariant-loop-i : goal.invariant-loop-i
invariant-loop-i l = record {
  len : length l.some.items ≡ l.i;
  each : (k : ℕ) → k < l.i → list_at l.some.items k ≡ list_at l.lists (slice_index l.places k);
}
