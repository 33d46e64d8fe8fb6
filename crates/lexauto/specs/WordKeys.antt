-- The keys that words lead to. (This project's.)
use Rattle.std.specs.Prelude.{◌≡◌, ℕ, ◌<◌, ◌⊎◌, Bool, true, false, List, [], length, Option, slice_index}
use Rattle.lex_semantics.specs.Text.{Among, listed}
use Rattle.lex_semantics.specs.Spec.{Spec}
use Rattle.lex_semantics.specs.Subsets.{IsLast, ReadsActive, all_positions, ListsSet}
use Rattle.lexauto_positions.specs.RuleAutomaton.{is_active}
use Rattle.lexauto.specs.Sets.{tagged}
use Rattle.lexauto.specs.Moving.{followers_in, reading_in}
use Rattle.lexauto.specs.Keys.{Key, At, Finds}
use Rattle.lexauto.specs.Explored.{step_by, IsExplored}

-- the key of a start: the active rules
abbrev pub start_key : Spec → ℕ → Bool → Key
start_key S c line_start = tagged 0 (listed (is_active S c line_start) 0 (length S.rules))

-- the key after one byte more
abbrev pub step_in : Spec → Key → ℕ → Key
step_in S = step_by (followers_in S.rules (all_positions S.rules)) (reading_in S.rules)

-- the key lists the last positions of the word
abbrev pub LastKey : Spec → ℕ → Bool → List ℕ → Key → Type 0
LastKey S c line_start w k =
    (l : List ℕ) × (k ≡ tagged 1 l) × ListsSet l (IsLast (ReadsActive S c line_start) w)
    × ((p : ℕ) → Among l p → p < all_positions S.rules)

-- the dead state's key, or that of a start
abbrev pub IsRoot : Spec → Key → Type 0
IsRoot S k = (k ≡ []) ⊎ ((c : ℕ) × (line_start : Bool) × (c < length S.conditions) × (k ≡ start_key S c line_start))

-- the table has the dead state's key first, and else those of starts
pub record AreRoots (S : Spec) (find : Key → Option ℕ) (keys : List Key) : Type 0 where
  pub finds : Finds find keys
  pub dead : At keys 0 []
  pub only : (i : ℕ) (k : Key) → At keys i k → IsRoot S k

-- the places of the starts of each condition
abbrev pub AreStartPlaces : Spec → Bool → List Key → List ℕ → Type 0
AreStartPlaces S line_start keys places =
    (c : ℕ) → c < length places → At keys (slice_index places c) (start_key S c line_start)

-- what stands in the one list stands in the other at the same place
abbrev pub Grows : List Key → List Key → Type 0
Grows old new = (i : ℕ) (k : Key) → At old i k → At new i k

-- The keys are all that are reached from the starts, each once, with the moves between them, and the places of the
-- starts.
pub record Surveys (S : Spec) (keys : List Key) (next starts line_starts : List ℕ) : Type 0 where
  pub roots : List Key
  pub only : (i : ℕ) (k : Key) → At roots i k → IsRoot S k
  pub automaton : IsExplored (step_in S) roots keys next
  pub dead : At roots 0 []
  pub starts_are : AreStartPlaces S false roots starts
  pub starts_len : length starts ≡ length S.conditions
  pub lines_are : AreStartPlaces S true roots line_starts
  pub lines_len : length line_starts ≡ length S.conditions
