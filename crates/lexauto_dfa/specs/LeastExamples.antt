-- Worked examples of least automata: that of the rule `a`, one with two states too many, and one with its states
-- exchanged.
use Rattle.std.specs.Prelude.{◌≡◌, ℕ, true, false, List, [], ◌∷◌, ◌++◌, replicate}
use Rattle.lexauto_dfa.specs.Parts.{lists_in}
use Rattle.lexauto_dfa.specs.declared.dfa.Parts.{Parts}
use Rattle.lexauto_dfa.specs.Least.{IsLeast, IsNumbered}

-- the targets of a state that `a` leads from to this one, and each other byte to the dead state
abbrev pub by_a : ℕ → List ℕ
by_a t = replicate 97 0 ++ t ∷ replicate 158 0

-- matches start in state 1, from which `a` leads to state 2, and rule 0 is accepted there
pub record IsOfA (p : Parts) : Type 0 where
  pub starts : p.starts.items ≡ 1 ∷ []
  pub line_starts : p.line_starts.items ≡ 1 ∷ []
  pub next : p.next.items ≡ by_a 0 ++ by_a 2 ++ by_a 0
  pub accepts : lists_in p ≡ [] ∷ [] ∷ (0 ∷ []) ∷ []
  pub goes_on : p.goes_on.items ≡ false ∷ true ∷ false ∷ []

abbrev pub LeastOfA : Type 0
LeastOfA = (p : Parts) → IsOfA p → IsLeast p × IsNumbered p

-- matches at the start of a line start in state 3, from which `a` leads to state 4, which accepts rule 0 too
pub record IsOfATwice (p : Parts) : Type 0 where
  pub starts : p.starts.items ≡ 1 ∷ []
  pub line_starts : p.line_starts.items ≡ 3 ∷ []
  pub next : p.next.items ≡ by_a 0 ++ by_a 2 ++ by_a 0 ++ by_a 4 ++ by_a 0
  pub accepts : lists_in p ≡ [] ∷ [] ∷ (0 ∷ []) ∷ [] ∷ (0 ∷ []) ∷ []
  pub goes_on : p.goes_on.items ≡ false ∷ true ∷ false ∷ true ∷ false ∷ []

abbrev pub NotLeast : Type 0
NotLeast = (p : Parts) → IsOfATwice p → IsLeast p → ⊥

-- the states of the first exchanged, and its starts with them
pub record IsOfANumberedAnew (p : Parts) : Type 0 where
  pub starts : p.starts.items ≡ 2 ∷ []
  pub line_starts : p.line_starts.items ≡ 2 ∷ []
  pub next : p.next.items ≡ by_a 0 ++ by_a 0 ++ by_a 1
  pub accepts : lists_in p ≡ [] ∷ (0 ∷ []) ∷ [] ∷ []
  pub goes_on : p.goes_on.items ≡ false ∷ false ∷ true ∷ []

abbrev pub NotNumbered : Type 0
NotNumbered = (p : Parts) → IsOfANumberedAnew p → IsNumbered p → ⊥
