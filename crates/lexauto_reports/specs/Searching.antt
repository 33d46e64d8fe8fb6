-- A search for the first word that leads to each state, in groups: a word, and the states that it is the first to lead
-- to. (This project's.)
use Rattle.std.specs.Prelude.{◌≡◌, ℕ, suc, ◌⊎◌, ◌+◌, ◌-◌, ◌*◌, ◌<◌, ◌≤◌, List, [], ◌∷◌, ◌++◌, length, map, take, drop, Option, Some, None, slice_index_or}
use Rattle.lex_semantics.specs.Text.{Among}
use Rattle.lexauto_dfa.specs.Parts.{states}
use Rattle.lexauto_dfa.specs.declared.dfa.Parts.{Parts}
use Rattle.lexauto_reports.specs.BackWords.{Precedes, NotAfter}
use Rattle.lexauto_reports.specs.Counting.{step, IsStart, LeadsTo}
use Rattle.lexauto_reports.specs.declared.groups.Group.{Group}
use Rattle.lexauto_reports.specs.declared.groups.Groups.{Groups}

-- an element of a list of lists
abbrev pub at : List (List ℕ) → ℕ → List ℕ
at ls j = slice_index_or ls j []

-- the group in which a state was found
abbrev pub place_of : List (Option ℕ) → ℕ → Option ℕ
place_of places x = slice_index_or places x None

abbrev pub word_in : List ℕ → Group → List ℕ
word_in text g = take (g.end - g.start) (drop g.start text)

abbrev pub words_of : Groups → List (List ℕ)
words_of groups = map (λ g. word_in groups.text.items g) groups.groups.items

abbrev pub states_of_groups : Groups → List (List ℕ)
states_of_groups groups = map (λ g. g.states.items) groups.groups.items

-- how many states were not found yet
abbrev pub unfound : List (Option ℕ) → ℕ
unfound [] = 0
unfound (None ∷ places) = suc (unfound places)
unfound (Some j ∷ places) = unfound places

-- the state was found in a group whose word is not after this one
abbrev pub IsPlaced : List (List ℕ) → List (Option ℕ) → ℕ → List ℕ → Type 0
IsPlaced words places x w = (j : ℕ) × (place_of places x ≡ Some j) × NotAfter (at words j) w

-- the groups so far, with words that ascend, from the empty word, which leads to the starts
pub record IsSound (p : Parts) (words found : List (List ℕ)) (places : List (Option ℕ)) : Type 0 where
  pub all : length places ≡ 3 * states p
  pub each : length found ≡ length words
  pub first : at words 0 ≡ []
  pub leads : (j x : ℕ) → j < length words → Among (at found j) x → (x < 3 * states p) × LeadsTo p (at words j) x
  pub placed : (x j : ℕ) → place_of places x ≡ Some j → (j < length words) × Among (at found j) x
  pub rising : (i j : ℕ) → i < j → j < length words → Precedes (at words i) (at words j)
  pub starts : (x : ℕ) → IsStart p x → place_of places x ≡ Some 0

-- where the states of the first k groups go by each byte is found
abbrev pub IsPast : Parts → List (List ℕ) → List (List ℕ) → List (Option ℕ) → ℕ → Type 0
IsPast p words found places k =
    (i x b : ℕ) → i < k → Among (at found i) x → b < 256 → IsPlaced words places (step p x b) (at words i ++ b ∷ [])

-- each word is before the one of group k with this byte more
abbrev pub AllBefore : List (List ℕ) → ℕ → ℕ → Type 0
AllBefore words k b = (j : ℕ) → j < length words → Precedes (at words j) (at words k ++ b ∷ [])

-- at group k and byte b of a search
pub record IsAt (p : Parts) (words found : List (List ℕ)) (places : List (Option ℕ)) (k b : ℕ) : Type 0 where
  pub within : k < length words
  pub sound : IsSound p words found places
  pub past : IsPast p words found places k
  pub here : (x c : ℕ) → Among (at found k) x → c < b → IsPlaced words places (step p x c) (at words k ++ c ∷ [])
  pub before : AllBefore words k b

-- before group k of a search, or at its end
pub record IsUpTo (p : Parts) (words found : List (List ℕ)) (places : List (Option ℕ)) (k : ℕ) : Type 0 where
  pub within : k ≤ length words
  pub sound : IsSound p words found places
  pub past : IsPast p words found places k
  pub before : k < length words → AllBefore words k 0

-- at its end: each state that a word leads to has a place, with the first word that does
pub record AreFound (p : Parts) (words : List (List ℕ)) (places : List (Option ℕ)) : Type 0 where
  pub all : length places ≡ 3 * states p
  pub known : (x j : ℕ) → place_of places x ≡ Some j → (j < length words) × LeadsTo p (at words j) x
  pub least : (x : ℕ) (w : List ℕ) → LeadsTo p w x → IsPlaced words places x w
  pub rising : (i j : ℕ) → i < j → j < length words → Precedes (at words i) (at words j)

-- Where the first i of some states go by a byte was looked at: those that had no place got the place n.
pub record AreSeen (p : Parts) (from : List ℕ) (i b n : ℕ) (old places : List (Option ℕ))
    (fresh : List ℕ) : Type 0 where
  pub len : length places ≡ length old
  pub kept : (x j : ℕ) → place_of old x ≡ Some j → place_of places x ≡ Some j
  pub only : (x j : ℕ) → place_of places x ≡ Some j → (place_of old x ≡ Some j) ⊎ ((j ≡ n) × Among fresh x)
  pub seen : (x : ℕ) → Among fresh x → (x < 3 * states p) × (y : ℕ) × Among from y × (step p y b ≡ x)
  pub all : (y : ℕ) → Among (take i from) y → (j : ℕ) × (place_of places (step p y b) ≡ Some j)
  pub fewer : length fresh + unfound places ≡ unfound old
