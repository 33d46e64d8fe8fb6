-- What the lists of an automaton tell. (This project's.)
use Rattle.std.specs.Prelude.{◌≡◌, ℕ, ◌+◌, ◌*◌, ◌<◌, ◌≤◌, Bool, false, cond, nat_lt, List, [], fold, map, length, slice_index, slice_index_or}
use Rattle.lex_semantics.specs.Text.{IsText, Among}
use Rattle.lexauto_dfa.specs.declared.dfa.Parts.{Parts}

abbrev pub conditions : Parts → ℕ
conditions p = length p.starts.items

abbrev pub states : Parts → ℕ
states p = length p.goes_on.items

-- the state where a match starts: the condition, and whether it is at the start of a line
abbrev pub start : Parts → ℕ → Bool → ℕ
start p c line_start = cond line_start (slice_index p.line_starts.items c) (slice_index p.starts.items c)

-- the state after one byte more; any other number leads to the dead state
abbrev pub next : Parts → ℕ → ℕ → ℕ
next p s b = cond (nat_lt b 256) (slice_index p.next.items (s * 256 + b)) 0

-- the rules that a state accepts
abbrev pub accepts : Parts → ℕ → List ℕ
accepts p s = slice_index_or (map (λ v. v.value.items) p.accepts.items) s []

abbrev pub goes_on : Parts → ℕ → Bool
goes_on p s = slice_index_or p.goes_on.items s false

-- some word leads to the state from a start
abbrev pub IsReachedIn : Parts → ℕ → Type 0
IsReachedIn p s =
    (c : ℕ) × (line_start : Bool) × (w : List ℕ) × (c < conditions p) × IsText w
    × (fold (next p) (start p c line_start) w ≡ s)

-- Names that proofs have for the lists of accepted rules, and for the state after a word.
abbrev pub lists_in : Parts → List (List ℕ)
lists_in p = map (λ v. v.value.items) p.accepts.items

abbrev pub after : Parts → ℕ → List ℕ → ℕ
after p s w = fold (next p) s w

-- some word that is not empty leads from the state to one that accepts
abbrev pub LeadsOn : Parts → ℕ → Type 0
LeadsOn p s = (w : List ℕ) × IsText w × (1 ≤ length w) × (i : ℕ) × Among (accepts p (after p s w)) i
