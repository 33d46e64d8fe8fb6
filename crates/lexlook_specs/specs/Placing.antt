-- The places of groups at which rules take texts, in an automaton that counts bytes. (This project's.)
use Rattle.std.specs.Prelude.{◌≡◌, ◌⊎◌, ℕ, ◌+◌, ◌*◌, ◌≤◌, ◌<◌, ◌==◌, min, Bool, false, cond, List, [], ◌∷◌, Option, Some, None}
use Rattle.lex_semantics.specs.Text.{Among, flag}
use Rattle.lexauto_dfa.specs.Parts.{accepts, after, start}
use Rattle.lexauto_dfa.specs.declared.dfa.Parts.{Parts}
use Rattle.lexauto_reports.specs.Searching.{place_of}
use Rattle.lexlook_specs.specs.Words.{StartsFirst}
use Rattle.lexlook_specs.specs.declared.words.starting.Wish.{Wish}
use Rattle.lexlook_specs.specs.declared.words.starting.Wish.TheVariants.{Takes, Copies, Shares}
use Rattle.lexlook_specs.specs.declared.words.starting.Start.{Start}

-- the front of these rules that take a text which fits them all: up to the first that does not give it up
abbrev pub takers : List Bool → List ℕ → List ℕ
takers rejects [] = []
takers rejects (i ∷ is) = cond (flag rejects i) (i ∷ takers rejects is) (i ∷ [])

-- of these rules, of which each fits a text, those behind rule i, if it takes the text
abbrev pub behind : List Bool → List ℕ → ℕ → List ℕ
behind rejects [] i = []
behind rejects (r ∷ rs) i = cond (r == i) rs (cond (flag rejects r) (behind rejects rs i) [])

-- the smaller place, where there are any
abbrev pub least_place : Option ℕ → Option ℕ → Option ℕ
least_place None o = o
least_place (Some j) None = Some j
least_place (Some j) (Some k) = Some (min j k)

-- a text of one byte or more leads to the state, and the first such text has this place
abbrev pub IsPlacedAt : List (Option ℕ) → ℕ → ℕ → Type 0
IsPlacedAt places s j = (place_of places (3 * s + 1) ≡ Some j) ⊎ (place_of places (3 * s + 2) ≡ Some j)

-- a place at which the rule takes a text, in one of the first n states
abbrev pub TakesAt : Parts → List Bool → List (Option ℕ) → ℕ → ℕ → ℕ → Type 0
TakesAt p rejects places n i j = (s : ℕ) × (s < n) × Among (takers rejects (accepts p s)) i × IsPlacedAt places s j

-- a place at which rule i takes a text that rule j behind it fits too, in one of the first n states
abbrev pub SharesAt : Parts → List Bool → List (Option ℕ) → ℕ → ℕ → ℕ → ℕ → Type 0
SharesAt p rejects places n i j k = (s : ℕ) × (s < n) × Among (behind rejects (accepts p s) i) j × IsPlacedAt places s k

-- the first of these places, if there is one
abbrev pub IsLeastOf : (ℕ → Type 0) → Option ℕ → Type 0
IsLeastOf P None = (j : ℕ) → P j → ⊥
IsLeastOf P (Some j) = P j × ((k : ℕ) → P k → j ≤ k)

-- what is wished of the rules that a state accepts: that one takes its texts, that each gives them up, or that one
-- takes them and another is among the rules too
abbrev pub Meets : List Bool → List ℕ → Wish → Type 0
Meets rejects rules (Takes i) = Among (takers rejects rules) i
Meets rejects rules Copies = (i : ℕ) → Among rules i → flag rejects i ≡ false → ⊥
Meets rejects rules (Shares i j) = Among (takers rejects rules) i × Among rules j

abbrev pub MeetsAfter : Parts → List Bool → List ℕ → Wish → ℕ → Bool → Type 0
MeetsAfter p rejects w wish c line = Meets rejects (accepts p (after p (start p c line) w)) wish

-- the first start from which the text leads to what is wished
abbrev pub IsFirstStart : Parts → List Bool → List ℕ → Wish → ℕ → Option Start → Type 0
IsFirstStart p rejects w wish n None = (c : ℕ) (line : Bool) → c < n → MeetsAfter p rejects w wish c line → ⊥
IsFirstStart p rejects w wish n (Some s) =
    (s.condition < n) × MeetsAfter p rejects w wish s.condition s.line_start
    × ((c : ℕ) (line : Bool) → c < n → MeetsAfter p rejects w wish c line → StartsFirst s.condition s.line_start c line)

-- the rule takes texts of another in one of the first n states
abbrev pub TakesBelow : Parts → List Bool → List (Option ℕ) → ℕ → ℕ → ℕ → Type 0
TakesBelow p rejects places n i j =
    (s k : ℕ) × (s < n) × IsPlacedAt places s k × Among (accepts p s) i × Among (takers rejects (accepts p s)) j
    × (flag rejects j ≡ false)
