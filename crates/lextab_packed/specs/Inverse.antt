-- The inverse transitions of a table: some of its entries by their targets, as chains.
use Rattle.std.specs.Prelude.{◌≡◌, ℕ, suc, ◌<◌, ◌≤◌, ◌/◌, List, length, slice_index}

-- the target of a link
abbrev pub target_of : (next entries : List ℕ) → ℕ → ℕ
target_of next entries k = slice_index next (slice_index entries k)

-- none of the first n links has the target of the entry x, and is of the same state
abbrev pub NoneLinks : (next entries : List ℕ) → ℕ → ℕ → Type 0
NoneLinks next entries x n =
    (k : ℕ) → k < length entries → k < n → target_of next entries k ≡ slice_index next x
    → slice_index entries k / 256 ≡ x / 256 → ⊥

-- The links of the first i entries. `last` has for each target the last link to it, and `before` for each link the last
-- one before it with the same target; each one more than the link, and 0 where there is none.
pub record AreChains (next last entries before : List ℕ) (i : ℕ) : Type 0 where
  pub befores : length before ≡ length entries
  pub inside : (k : ℕ) → k < length entries → slice_index entries k < i
  pub last_low : (y : ℕ) → y < length last → slice_index last y ≤ length entries
  pub last_is : (y k : ℕ) → y < length last → slice_index last y ≡ suc k → target_of next entries k ≡ y
  pub last_top : (k : ℕ) → k < length entries → k < slice_index last (target_of next entries k)
  pub last_all : (x : ℕ) → x < i → NoneLinks next entries x (slice_index last (slice_index next x)) → ⊥
  pub before_low : (k : ℕ) → k < length entries → slice_index before k ≤ k
  pub before_is : (k j : ℕ) → k < length entries → slice_index before k ≡ suc j
      → target_of next entries j ≡ target_of next entries k
  pub before_all : (k j : ℕ) → k < length entries → j < k → target_of next entries j ≡ target_of next entries k
      → j < slice_index before k

-- the list has the number
abbrev pub Has : List ℕ → ℕ → Type 0
Has xs c = (i : ℕ) × (i < length xs) × (slice_index xs i ≡ c)
