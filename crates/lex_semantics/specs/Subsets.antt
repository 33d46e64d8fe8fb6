-- The positions that words read last, and how many subsets of them there are: the states of the automaton before
-- minimising. (This project's.)
use Rattle.std.specs.Prelude.{◌≡◌, ◌≢◌, ℕ, zero, suc, ◌+◌, ◌≤◌, ◌<◌, Bool, true, List, [], ◌∷◌, ◌++◌, length, ◌↔◌, map, Option, Some, MatchOption, slice_get, take}
use Rattle.std.specs.Option.{option_map_or}
use Rattle.lex_semantics.specs.Text.{IsText, Among, Pairwise}
use Rattle.lex_semantics.specs.Tree.{Tree}
use Rattle.lex_semantics.specs.Positions.{positions, MarkedByte, Reads}
use Rattle.lex_semantics.specs.Spec.{Spec, Rule}
use Rattle.lex_semantics.specs.Active.{active}

-- all the positions of the rules, those of a trail after those of its head
abbrev pub all_positions : List Rule → ℕ
all_positions [] = 0
all_positions (r ∷ rs) = positions r.head + option_map_or positions r.trail 0 + all_positions rs

-- a word of the head that is not empty, and then a word of the trail, where there is one
abbrev pub ReadsRule : Rule → ℕ → List MarkedByte → Type 0
ReadsRule r base rs =
    (us vs : List MarkedByte) × (rs ≡ us ++ vs) × (Reads r.head base us × (us ≢ []))
    × MatchOption r.trail (vs ≡ []) (λ t. Reads t (base + positions r.head) vs)

-- a reading of an active rule, whose positions come after those of the rules before it
abbrev pub ReadsActive : Spec → ℕ → Bool → List MarkedByte → Type 0
ReadsActive S c line_start rs =
    (i : ℕ) × (r : Rule) × (slice_get S.rules i ≡ Some r) × (active S c line_start r ≡ true)
    × ReadsRule r (all_positions (take i S.rules)) rs

-- some reading begins with the word, and reads its last byte at p
abbrev pub IsLast : (List MarkedByte → Type 0) → List ℕ → ℕ → Type 0
IsLast R w p = (rs zs : List MarkedByte) × (b : ℕ) × (map (λ c. c.0) rs ++ b ∷ [] ≡ w) × R (rs ++ (b, p) ∷ zs)

-- the list has each member of the set and nothing else, in order
abbrev pub ListsSet : List ℕ → (ℕ → Type 0) → Type 0
ListsSet l P = Pairwise ◌<◌ l × ((i : ℕ) → Among l i ↔ P i)

-- the lists of this kind that are not empty, each once
pub record AreAll (Kind : List ℕ → Type 0) (ls : List (List ℕ)) : Type 0 where
  pub distinct : Pairwise ◌≢◌ ls
  pub listed : (l : List ℕ) → Among ls l ↔ ((1 ≤ length l) × Kind l)

-- the rule of this number is active
abbrev pub IsActive : Spec → ℕ → Bool → ℕ → Type 0
IsActive S c line_start i = (r : Rule) × (slice_get S.rules i ≡ Some r) × (active S c line_start r ≡ true)

-- How many states there are before minimising: the dead one, one for each set of active rules, and one for each set of
-- last positions of a word that is not empty. The empty sets are left out.
pub record HasSubsets (S : Spec) (n : ℕ) : Type 0 where
  pub starts : List (List ℕ)
  pub lasts : List (List ℕ)
  pub are_starts : AreAll (λ l. (c : ℕ) × (line_start : Bool) × (c < length S.conditions)
      × ListsSet l (IsActive S c line_start)) starts
  pub are_lasts : AreAll (λ l. (c : ℕ) × (line_start : Bool) × (w : List ℕ) × (c < length S.conditions) × IsText w
      × (1 ≤ length w) × ListsSet l (IsLast (ReadsActive S c line_start) w)) lasts
  pub total : n ≡ 1 + length starts + length lasts

-- Names that the code and proofs have: for the positions of a rule, for where those of rule i begin, when those of the
-- first of these rules begin at `base`, for the side of the trail, and for the lists of subsets.

abbrev pub positions_of_rule : Rule → ℕ
positions_of_rule r = positions r.head + option_map_or positions r.trail 0

abbrev pub base_of : List Rule → ℕ → ℕ → ℕ
base_of [] base i = base
base_of (r ∷ rs) base zero = base
base_of (r ∷ rs) base (suc i) = base_of rs (base + positions_of_rule r) i

abbrev pub positions_of_trail : Option Tree → ℕ
positions_of_trail trail = option_map_or positions trail 0

abbrev pub ReadsTrail : Option Tree → ℕ → List MarkedByte → Type 0
ReadsTrail trail base rs = MatchOption trail (rs ≡ []) (λ t. Reads t base rs)

abbrev pub Distinct : List (List ℕ) → Type 0
Distinct ls = Pairwise ◌≢◌ ls

abbrev pub AreStarts : Spec → List (List ℕ) → Type 0
AreStarts S ls =
    AreAll (λ l. (c : ℕ) × (line_start : Bool) × (c < length S.conditions) × ListsSet l (IsActive S c line_start)) ls

abbrev pub AreLasts : Spec → List (List ℕ) → Type 0
AreLasts S ls =
    AreAll (λ l. (c : ℕ) × (line_start : Bool) × (w : List ℕ) × (c < length S.conditions) × IsText w
    × (1 ≤ length w) × ListsSet l (IsLast (ReadsActive S c line_start) w)) ls
