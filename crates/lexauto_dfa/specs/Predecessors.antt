-- The states that go to a state, whatever the letter.
use Rattle.std.specs.Prelude.{◌≡◌, ℕ, ◌<◌, List, length, slice_index, slice_index_or, ⊤}
use Rattle.lexauto_dfa.specs.declared.least.sources.Letter.{Letter}
use Rattle.lexauto_dfa.specs.declared.least.predecessors.Predecessors.{Predecessors}
use Rattle.lexauto_dfa.specs.declared.least.predecessors.Predecessors.TheVariants as P
use Rattle.lexauto_dfa.specs.Letters.{row_of}

-- the state x may be among them
abbrev pub Allows : Predecessors → ℕ → Type 0
Allows P.None x = ⊥
Allows (P.One y) x = x ≡ y
Allows P.Many x = ⊤

-- what is known of the state t
abbrev pub known_of : List Predecessors → ℕ → Predecessors
known_of known t = slice_index_or known t P.None

-- each of n states may be among those that go where it goes
abbrev pub AllowMoves : List Letter → ℕ → List Predecessors → Type 0
AllowMoves letters n known =
    (a x : ℕ) → a < length letters → x < n → Allows (known_of known (slice_index (row_of letters a) x)) x

-- where there is one, it is one of n states
abbrev pub AreBelow : ℕ → List Predecessors → Type 0
AreBelow n known = (t x : ℕ) → known_of known t ≡ P.One x → x < n

-- what is known of each of n states
pub record ArePredecessors (letters : List Letter) (n : ℕ) (known : List Predecessors) : Type 0 where
  pub len : length known ≡ n
  pub below : AreBelow n known
  pub allow : AllowMoves letters n known
