-- The bytes of each class as a chain, from the least one on. (This project's.)
use Rattle.std.specs.Prelude.{◌≡◌, ℕ, ◌+◌, ◌<◌, ◌≤◌, List, slice_index}

-- The first byte of a class from this one on, or 256 where there is none.
pub record IsNext (class_of : List ℕ) (class from next : ℕ) : Type 0 where
  pub order : from ≤ next
  pub inside : next ≤ 256
  pub is : next < 256 → slice_index class_of next ≡ class
  pub none : (b : ℕ) → from ≤ b → b < next → slice_index class_of b ≡ class → ⊥

-- `first` has the first byte of each class, and `after` for each byte from this one on the next one of its class.
pub record AreAlike (class_of first after : List ℕ) (from : ℕ) : Type 0 where
  pub firsts : (class : ℕ) → class < 256 → IsNext class_of class from (slice_index first class)
  pub afters : (b : ℕ) → from ≤ b → b < 256 → IsNext class_of (slice_index class_of b) (b + 1) (slice_index after b)

-- each byte has what its class has
abbrev pub IsSpread : (class_of by_class by_byte : List ℕ) → Type 0
IsSpread class_of by_class by_byte =
    (b : ℕ) → b < 256 → slice_index by_byte b ≡ slice_index by_class (slice_index class_of b)
