-- A search for the states that texts lead to, in the order of these texts. (This project's.)
use Rattle.std.specs.Prelude.{◌≡◌, ℕ, suc, ◌<◌, Bool, true, false, List, [], ◌∷◌, ◌++◌, length, ◌⊎◌, get_or, slice_set}
use Rattle.lex_semantics.specs.Text.{IsText, Among, flag}
use Rattle.lex_semantics.specs.Machine.{Machine, walk}
use Rattle.lexauto_reports.specs.BackWords.{Precedes, NotAfter}
use Rattle.lexlook_tables.specs.Searching.{KeyAt}

-- A key is the number of a start, among those from which the search begins, and behind it a text. It leads to this
-- state.
abbrev pub LeadsTo : Machine → List ℕ → List ℕ → ℕ → Type 0
LeadsTo M from [] s = ⊥
LeadsTo M from (j ∷ w) s = (j < length from) × IsText w × (s ≡ walk M (get_or from j 0) w)

-- The states found, each below n, have keys that lead to them, in ascending order.
pub record InOrder (M : Machine) (n : ℕ) (from found : List ℕ) (keys : List (List ℕ)) : Type 0 where
  pub within : (s : ℕ) → Among found s → s < n
  pub sized : length keys ≡ length found
  pub leads : (i : ℕ) (u : List ℕ) → KeyAt keys i u → LeadsTo M from u (get_or found i 0)
  pub ascending : (i j : ℕ) (u v : List ℕ) → KeyAt keys i u → KeyAt keys j v → i < j → Precedes u v

-- the state was found by a key that is not after this one
abbrev pub FoundBy : List ℕ → List (List ℕ) → ℕ → List ℕ → Type 0
FoundBy found keys s u = (i : ℕ) × (v : List ℕ) × KeyAt keys i v × (get_or found i 0 ≡ s) × NotAfter v u

-- These are the states, each below n, that texts lead to from those: each once, in the order of the first texts that
-- lead to them.
pub record IsReached (M : Machine) (n : ℕ) (from found : List ℕ) : Type 0 where
  pub keys : List (List ℕ)
  pub order : InOrder M n from found keys
  pub all : (j : ℕ) (w : List ℕ) → j < length from → IsText w → FoundBy found keys (walk M (get_or from j 0) w) (j ∷ w)

-- The states found so far, which are marked. Of those before this place each byte was followed, and of the one there
-- each below b.
pub record Found (M : Machine) (n : ℕ) (from found : List ℕ) (marks : List Bool) (place b : ℕ) : Type 0 where
  pub keys : List (List ℕ)
  pub order : InOrder M n from found keys
  pub size : length marks ≡ n
  pub marked : (s : ℕ) → flag marks s ≡ true → Among found s
  pub ahead : (t u : List ℕ) (j : ℕ) → KeyAt keys place t → KeyAt keys j u → Precedes u (t ++ b ∷ [])
  pub starts : (j : ℕ) → j < length from → FoundBy found keys (get_or from j 0) (j ∷ [])
  pub closed : (i c : ℕ) (t : List ℕ) → KeyAt keys i t → c < 256 → (i < place) ⊎ ((i ≡ place) × (c < b))
      → FoundBy found keys (M.next (get_or found i 0) c) (t ++ c ∷ [])

-- the search from these starts, before any byte was followed: the text of each key is empty
pub record Begun (M : Machine) (n : ℕ) (from found : List ℕ) (marks : List Bool) : Type 0 where
  pub search : Found M n from found marks 0 0
  pub empty : (i : ℕ) (u : List ℕ) → KeyAt search.keys i u → (j : ℕ) × (j < length from) × (u ≡ j ∷ [])

-- a state is among those found, and marked: it was before, or it is a new one
abbrev pub Added : List ℕ → List Bool → ℕ → List ℕ → List Bool → Type 0
Added found marks s found' marks' =
    ((flag marks s ≡ true) × (found' ≡ found) × (marks' ≡ marks))
    ⊎ ((flag marks s ≡ false) × (found' ≡ found ++ s ∷ []) × (marks' ≡ slice_set marks s true))

-- the search begins from these states too
abbrev pub BegunFrom : List ℕ → List ℕ → List Bool → List ℕ → List Bool → Type 0
BegunFrom states found marks found' marks' =
    (M : Machine) (n : ℕ) (from : List ℕ) → Begun M n from found marks → Begun M n (from ++ states) found' marks'

-- how many states are not marked
abbrev pub unmarked : List Bool → ℕ
unmarked [] = 0
unmarked (true ∷ marks) = unmarked marks
unmarked (false ∷ marks) = suc (unmarked marks)

-- From a state each byte below b was followed: the states that these lead to were added, if they were new ones.
pub record Followed (M : Machine) (s b : ℕ) (found : List ℕ) (marks : List Bool) (found' : List ℕ)
    (marks' : List Bool) : Type 0 where
  pub more : List ℕ
  pub behind : found' ≡ found ++ more
  pub led : (t : ℕ) → Among more t → (c : ℕ) × (c < b) × (t ≡ M.next s c)
  pub all : (c : ℕ) → c < b → flag marks' (M.next s c) ≡ true
  pub kept : (t : ℕ) → flag marks t ≡ true → flag marks' t ≡ true
  pub marked : (t : ℕ) → flag marks' t ≡ true → (flag marks t ≡ true) ⊎ Among more t
  pub size : length marks' ≡ length marks
