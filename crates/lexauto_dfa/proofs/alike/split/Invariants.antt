use Rattle.std.proofs.Common.{◌≡◌, ℕ, ◌+◌, ◌<◌, ◌≤◌, slice_index}
use Rattle.lexauto_dfa.specs.Alike.{IsSplit}
use Rattle.lexauto_dfa.proofs.alike.split.Given as goal

abbrev pub invariant-loop-i : goal.invariant-loop-i
invariant-loop-i l = record {
  kept : (b : ℕ) → b + l.i < 256 → slice_index l.lead b ≡ slice_index l.fn.lead b;
  done : (b : ℕ) → b < 256 → 256 ≤ b + l.i → IsSplit l.fn.lead l.row b (slice_index l.lead b);
}
