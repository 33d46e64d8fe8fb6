use Rattle.std.proofs.Common.{◌≡◌, ◌≤◌, ◌<◌, ◌-◌, ℕ, length}
use Rattle.std.specs.Prelude.{slice_index}
use Rattle.lextab_packed.proofs.alike.put_class.Given as goal

abbrev pub invariant-chain : goal.invariant-chain
invariant-chain l = record {
  len : length l.targets ≡ 256;
  inside : l.byte ≤ 256;
  is : l.byte < 256 → slice_index l.class_of l.byte ≡ l.class;
  put : (b : ℕ) → b < l.byte → slice_index l.class_of b ≡ l.class → slice_index l.targets b ≡ l.target;
  kept : (b : ℕ) → b < 256 → (slice_index l.class_of b ≡ l.class → ⊥) → slice_index l.targets b ≡ slice_index l.initial.targets b;
}

abbrev pub decreases-chain : goal.decreases-chain
decreases-chain l = 256 - l.byte
