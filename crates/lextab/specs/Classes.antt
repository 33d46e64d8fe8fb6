-- Bytes that no state tells apart. (This project's.)
use Rattle.std.specs.Prelude.{◌≡◌, ℕ, ◌<◌, List, length, slice_index}
use Rattle.lexauto_dfa.specs.Alike.{Alike}

-- The class of each byte: alike bytes have one class, and the classes are numbered from 0 in order of their first byte.
pub record IsClassMap (n : ℕ) (go : ℕ → ℕ → ℕ) (class_of : List ℕ) (count : ℕ) : Type 0 where
  pub bytes : length class_of ≡ 256
  pub alike : (b c : ℕ) → b < 256 → c < 256 → Alike n go b c → slice_index class_of b ≡ slice_index class_of c
  pub apart : (b c : ℕ) → b < 256 → c < 256 → slice_index class_of b ≡ slice_index class_of c → Alike n go b c
  pub order : (b k : ℕ) → b < 256 → k < slice_index class_of b → (c : ℕ) × (c < b) × (slice_index class_of c ≡ k)
  pub below : (b : ℕ) → b < 256 → slice_index class_of b < count
  pub used : (k : ℕ) → k < count → (b : ℕ) × (b < 256) × (slice_index class_of b ≡ k)
