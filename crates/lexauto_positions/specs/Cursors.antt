-- Where a walk stands in an ascending list of positions. (This project's.)
use Rattle.std.specs.Prelude.{ℕ, ◌<◌, ◌≤◌, List, length, slice_index}
use Rattle.lex_semantics.specs.Text.{Among, Ascending}

-- a smaller number comes first, by index
abbrev pub Increases : List ℕ → Type 0
Increases l = (i j : ℕ) → i < j → j < length l → slice_index l i < slice_index l j

-- those of the list that are less than `base` stand before `at`
pub record IsCursor (l : List ℕ) (at base : ℕ) : Type 0 where
  pub increases : Increases l
  pub within : at ≤ length l
  pub below : (j : ℕ) → j < at → slice_index l j < base
  pub above : (j : ℕ) → at ≤ j → j < length l → base ≤ slice_index l j

-- ascending numbers that are less than `base`
pub record IsFront (l : List ℕ) (base : ℕ) : Type 0 where
  pub ascending : Ascending l
  pub below : (j : ℕ) → Among l j → j < base
