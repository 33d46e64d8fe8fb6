use Rattle.std.proofs.Common.{◌≡◌, ◌≢◌, ℕ, ◌<◌, ◌≤◌, slice_index}
use Rattle.lexauto_dfa.proofs.least.blocks.rename.Given as goal

abbrev pub invariant-loop-i : goal.invariant-loop-i
invariant-loop-i l = record {
  moved : (i : ℕ) → l.from ≤ i → i < l.i → slice_index l.block (slice_index l.order i) ≡ l.number;
  rest : (x : ℕ) → ((i : ℕ) → l.from ≤ i → i < l.i → slice_index l.order i ≢ x) → slice_index l.block x ≡ slice_index l.fn.block x;
}
