use Rattle.std.proofs.Common.{◌≡◌, ℕ, ◌+◌, ◌*◌, ◌<◌, ◌≤◌, length, slice_index}
use Rattle.std.specs.Int.{bit_at}
use Rattle.lextab.specs.Searching.{slot_bit, Hits}
use Rattle.lextab.proofs.slots.blocked.Given as goal

abbrev pub invariant-loop-i : goal.invariant-loop-i
invariant-loop-i l = record {
  taken : (j : ℕ) → j < 64 → bit_at l.bad j ≡ 1 → Hits l.words l.entries (64 * l.w + j);
  free : (j : ℕ) → j < 64 → bit_at l.bad j ≡ 0 → (m : ℕ) → length l.entries ≤ m + l.i → m < length l.entries
      → slot_bit l.words (64 * l.w + j + slice_index l.entries m) ≡ 0;
}
