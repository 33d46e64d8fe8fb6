-- Rows of slots by classes of neighbouring bytes. (This project's.)
use Rattle.std.specs.Prelude.{◌≡◌, ℕ, suc, ◌+◌, ◌*◌, ◌<◌, ◌≤◌, List, length, slice_index}
use Rattle.lexauto_dfa.specs.Alike.{moves}

-- a byte that is not marked leads where the next one does
abbrev pub TellsNext : List ℕ → List ℕ → ℕ → Type 0
TellsNext row changes b = slice_index changes b ≡ 0 → slice_index row b ≡ slice_index row (b + 1)

-- from each of the first n states so
abbrev pub TellChanges : List ℕ → ℕ → List ℕ → Type 0
TellChanges next n changes =
    (s b : ℕ) → s < n → b < 255 → slice_index changes b ≡ 0 → moves next s b ≡ moves next s (b + 1)

-- The first i bytes have classes, each a byte that it begins with, and n states go by a byte as by that one.
pub record AreNeighbours (next : List ℕ) (n : ℕ) (class_of heads : List ℕ) (i : ℕ) : Type 0 where
  pub len : length class_of ≡ i
  pub few : length heads ≤ i
  pub below : (b : ℕ) → b < i → slice_index class_of b < length heads
  pub last : (b : ℕ) → suc b ≡ i → suc (slice_index class_of b) ≡ length heads
  pub head : (k : ℕ) → k < length heads → slice_index heads k < i
  pub alike : (s b : ℕ) → s < n → b < i → moves next s (slice_index heads (slice_index class_of b)) ≡ moves next s b
  pub all : length heads ≡ i → (k : ℕ) → k < i → slice_index heads k ≡ k

-- a slot for each of n states and each class, one row after another, with the state and its target
pub record AreRowByRow (to : ℕ → ℕ → ℕ) (count n : ℕ) (bases check next : List ℕ) : Type 0 where
  pub bases_len : length bases ≡ n
  pub base : (s : ℕ) → s < n → slice_index bases s ≡ s * count
  pub check_len : length check ≡ n * count
  pub next_len : length next ≡ n * count
  pub state : (s k : ℕ) → s < n → k < count → slice_index check (s * count + k) ≡ s
  pub target : (s k : ℕ) → s < n → k < count → slice_index next (s * count + k) ≡ to s k
