-- How far a search for pairs of rules has come. (This project's.)
use Rattle.std.specs.Prelude.{◌≡◌, ◌⊎◌, ℕ, ◌<◌, ◌≤◌, List, length, Some, slice_get}
use Rattle.lexlook_specs.specs.Matches.{RuleMatches}
use Rattle.lexlook_specs.specs.Overlaps.{ComesAfter, HasPair, IsOverlap, IsPairBefore, IsShared}
use Rattle.lexlook_specs.specs.declared.words.overlapping.Overlap.{Overlap}

-- of the pairs before this one the first are told, and all of them unless there are more than may be
pub record IsUpTo (m : RuleMatches) (most i j : ℕ) (v : List Overlap) : Type 0 where
  pub few : length v ≤ most
  pub each : (k : ℕ) (x : Overlap) → slice_get v k ≡ Some x → IsOverlap m x
  pub rising : (k l : ℕ) (x y : Overlap) → k < l → slice_get v k ≡ Some x → slice_get v l ≡ Some y
      → IsPairBefore x.first x.second y.first y.second
  pub before : (k : ℕ) (x : Overlap) → slice_get v k ≡ Some x → IsPairBefore x.first x.second i j
  pub all : (a b : ℕ) (w : List ℕ) → a < b → IsPairBefore a b i j → IsShared m a b w
      → HasPair v a b ⊎ ComesAfter most v a b
