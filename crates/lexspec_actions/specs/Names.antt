-- Names and their numbers.
use Rattle.std.specs.Prelude.{ℕ, suc, Bool, if◌then◌else◌, List, [], ◌∷◌, map, Option, Some, None}
use Rattle.lex_semantics.specs.ByteSets.{same_bytes}
use Rattle.lexspec_actions.specs.declared.condition.Condition.{Condition}

-- the number of the first that has the name, counted from k
abbrev pub number_from : ℕ → List (List ℕ) → List ℕ → Option ℕ
number_from k [] name = None
number_from k (n ∷ ns) name = if same_bytes n name then Some k else number_from (suc k) ns name

abbrev pub names_of : List Condition → List (List ℕ)
names_of cs = map (λ c. c.name.items) cs

-- what actions may name: conditions, by their names, and pushes and pops, where the option `stack` is set
pub record Scope : Type 0 where
  pub number : List ℕ → Option ℕ
  pub stack : Bool

abbrev pub known_in : List (List ℕ) → Bool → Scope
known_in names stack = record { number = number_from 0 names; stack = stack }
