-- Sets of rules and positions as lists, and the keys of states. A key's first number says what kind of state it is for.
-- (This project's.)
use Rattle.std.specs.Prelude.{ℕ, zero, suc, ◌&&◌, Bool, List, [], ◌∷◌, length, nat_lt, slice_index_or}
use Rattle.lex_semantics.specs.Text.{flag}
use Rattle.lex_semantics.specs.Active.{contains}
use Rattle.lexauto.specs.Keys.{Key}
use Rattle.lexauto.specs.declared.sets.KeyKind.{KeyKind}
use Rattle.lexauto.specs.declared.sets.KeyKind.TheVariants.{ActiveRules, LastPositions}

-- the number is in the list, and below n
abbrev pub marked : ℕ → List ℕ → ℕ → Bool
marked n xs i = nat_lt i n && contains xs i

-- what stands for the number, at its place, is marked
abbrev pub marked_by : List ℕ → List Bool → ℕ → Bool
marked_by places marks i = flag marks (slice_index_or places i (length marks))

-- the number that a key of this kind begins with
abbrev pub number_of : KeyKind → ℕ
number_of ActiveRules = 0
number_of LastPositions = 1

-- a set with its kind; the empty set has none
abbrev pub tagged : ℕ → List ℕ → Key
tagged kind [] = []
tagged kind (x ∷ xs) = kind ∷ x ∷ xs

-- the active rules of a start state
abbrev pub starts_in : Key → List ℕ
starts_in [] = []
starts_in (zero ∷ xs) = xs
starts_in (suc kind ∷ xs) = []

-- the last positions of another state
abbrev pub lasts_in : Key → List ℕ
lasts_in [] = []
lasts_in (zero ∷ xs) = []
lasts_in (suc kind ∷ xs) = xs
