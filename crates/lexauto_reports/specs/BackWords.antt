-- The states that back up, and their first words. (flex, Scanner Options: -b; the order of words is this project's.)
use Rattle.std.specs.Prelude.{◌≡◌, ◌⊎◌, ℕ, ◌<◌, ◌≤◌, Bool, true, List, [], ◌∷◌, length, map, Option, Some, None}
use Rattle.lex_semantics.specs.Text.{IsText}
use Rattle.lex_semantics.specs.Spec.{Spec}
use Rattle.lex_semantics.specs.Reports.{BackWord}
use Rattle.lex_semantics.specs.Machine.{Machine, state_after}
use Rattle.lexauto_dfa.specs.Automata.{bare}
use Rattle.lexauto_dfa.specs.Parts.{accepts, goes_on}
use Rattle.lexauto_dfa.specs.declared.dfa.Parts.{Parts}
use Rattle.lexauto_reports.specs.declared.backup.BackUp.{BackUp}

-- at the first byte in which they differ, w has the smaller one
abbrev pub Smaller : List ℕ → List ℕ → Type 0
Smaller (a ∷ w) (b ∷ v) = (a < b) ⊎ ((a ≡ b) × Smaller w v)
Smaller w v = ⊥

-- w is shorter than v, or as long and first in byte order
abbrev pub Precedes : List ℕ → List ℕ → Type 0
Precedes w v = (length w < length v) ⊎ ((length w ≡ length v) × Smaller w v)

-- a word of two bytes or more leads to the state from a start
abbrev pub IsWordTo : Machine → ℕ → List ℕ → Type 0
IsWordTo M s w =
    (c : ℕ) × (line_start : Bool) × (c < M.conditions) × IsText w × (2 ≤ length w) × (state_after M c line_start w ≡ s)

-- of the words of two bytes or more that lead to the state, it is the shortest, and of these the first in byte order
abbrev pub IsFirstWord : Machine → ℕ → List ℕ → Type 0
IsFirstWord M s w = IsWordTo M s w × ((v : List ℕ) → IsWordTo M s v → (w ≡ v) ⊎ Precedes w v)

-- the state goes on and accepts nothing, and a word of two bytes or more leads to it
abbrev pub BacksUp : Parts → ℕ → Type 0
BacksUp p s = (goes_on p s ≡ true) × (accepts p s ≡ []) × (w : List ℕ) × IsWordTo (bare p) s w

-- the machine is in the state after some back word of the specification
abbrev pub IsAfterBackWord : Machine → Spec → ℕ → Type 0
IsAfterBackWord M S s =
    (c : ℕ) × (line_start : Bool) × (w : List ℕ) × BackWord S c line_start w × (state_after M c line_start w ≡ s)

-- Names that proofs have for the states of a report, and for words in order.
abbrev pub states_in : List BackUp → List ℕ
states_in entries = map (λ e. e.state) entries

abbrev pub NotAfter : List ℕ → List ℕ → Type 0
NotAfter w v = (w ≡ v) ⊎ Precedes w v

-- the entry of a state, if it backs up
abbrev pub IsEntry : Parts → ℕ → Option BackUp → Type 0
IsEntry p s None = BacksUp p s → ⊥
IsEntry p s (Some e) = (e.state ≡ s) × BacksUp p s × IsFirstWord (bare p) s e.word.items
