-- Pairs of rules that fit one text with the same length. (POSIX, lex, Actions in lex: of rules that match as many
-- characters the one that was given first is chosen, and REJECT goes on to the next; the rest is this project's.)
use Rattle.std.specs.Prelude.{◌≡◌, ◌⊎◌, ℕ, ◌<◌, ◌≤◌, Bool, true, false, List, length, Option, Some, slice_get}
use Rattle.lexauto_reports.specs.BackWords.{NotAfter}
use Rattle.lexlook_specs.specs.Matches.{RuleMatches, IsInput, TakesText}
use Rattle.lexlook_specs.specs.declared.words.overlapping.Home.{Home}
use Rattle.lexlook_specs.specs.declared.words.overlapping.Home.TheVariants.{Nowhere, AtLineStart, Anywhere}
use Rattle.lexlook_specs.specs.declared.words.overlapping.Overlap.{Overlap}

-- The text fits both rules, each with its trailing context, and the first takes it: no rule before it keeps it.
abbrev pub SharesText : RuleMatches → ℕ → ℕ → ℕ → Bool → List ℕ → Type 0
SharesText m i j c line w = TakesText m c line w i × m.fits c line w j

-- they share the text in some condition
abbrev pub IsShared : RuleMatches → ℕ → ℕ → List ℕ → Type 0
IsShared m i j w = (c : ℕ) × (line : Bool) × IsInput m c w × SharesText m i j c line w

-- of the texts that they share it is the shortest, and of these the first in byte order
pub record IsFirstShared (m : RuleMatches) (i j : ℕ) (w : List ℕ) : Type 0 where
  pub shared : IsShared m i j w
  pub first : (v : List ℕ) → IsShared m i j v → NotAfter w v

-- where in a condition they share the text: nowhere, at the start of a line alone, or not there alone
abbrev pub IsHome : RuleMatches → ℕ → ℕ → List ℕ → ℕ → Home → Type 0
IsHome m i j w c Nowhere = (line : Bool) → SharesText m i j c line w → ⊥
IsHome m i j w c AtLineStart = SharesText m i j c true w × (SharesText m i j c false w → ⊥)
IsHome m i j w c Anywhere = SharesText m i j c false w

-- the same for each condition by its number
pub record AreHomes (m : RuleMatches) (i j : ℕ) (w : List ℕ) (homes : List Home) : Type 0 where
  pub each : length homes ≡ m.conditions
  pub home : (c : ℕ) (h : Home) → slice_get homes c ≡ Some h → IsHome m i j w c h

-- what is told of two rules: the first of the texts that they share, where, and whether the first of them has REJECT
pub record IsOverlap (m : RuleMatches) (x : Overlap) : Type 0 where
  pub order : x.first < x.second
  pub known : x.second < m.count
  pub text : IsFirstShared m x.first x.second x.text.items
  pub homes : AreHomes m x.first x.second x.text.items x.homes.items
  pub gives_up : x.gives_up ≡ m.gives_up x.first

-- pairs come by their first rules, and then by the second
abbrev pub IsPairBefore : ℕ → ℕ → ℕ → ℕ → Type 0
IsPairBefore i j k l = (i < k) ⊎ ((i ≡ k) × (j < l))

abbrev pub HasPair : List Overlap → ℕ → ℕ → Type 0
HasPair v i j = (k : ℕ) × (x : Overlap) × (slice_get v k ≡ Some x) × (x.first ≡ i) × (x.second ≡ j)

-- as many are told as there may be, and all of them come before this pair
abbrev pub ComesAfter : ℕ → List Overlap → ℕ → ℕ → Type 0
ComesAfter most v i j =
    (length v ≡ most) × ((k : ℕ) (x : Overlap) → slice_get v k ≡ Some x → IsPairBefore x.first x.second i j)

-- the first of the pairs that share a text, in order, and all of them unless there are more than this
pub record AreOverlaps (m : RuleMatches) (most : ℕ) (v : List Overlap) : Type 0 where
  pub few : length v ≤ most
  pub each : (k : ℕ) (x : Overlap) → slice_get v k ≡ Some x → IsOverlap m x
  pub rising : (k l : ℕ) (x y : Overlap) → k < l → slice_get v k ≡ Some x → slice_get v l ≡ Some y
      → IsPairBefore x.first x.second y.first y.second
  pub all : (i j : ℕ) (w : List ℕ) → i < j → IsShared m i j w → HasPair v i j ⊎ ComesAfter most v i j
