use Rattle.std.proofs.Common.{◌≡◌, ℕ, ◌<◌, ◌≤◌, length, slice_index}
use Rattle.lextab.proofs.filling.size_of.Given as goal

abbrev pub invariant-loop-base : goal.invariant-loop-base
invariant-loop-base l = record {
  all : (s : ℕ) → s < l.base-index → slice_index l.bases s ≤ l.greatest;
  one : (s : ℕ) × (s < length l.bases) × (slice_index l.bases s ≡ l.greatest);
}
