-- There is one proof at most that the conditions of a stack are in range, so a type may keep it.
use Rattle.std.specs.Prelude.{ℕ, List, [], ◌∷◌}
use Rattle.std.specs.Coded.{×_prop, Unit-prop, le_prop}
use Rattle.lex_semantics.specs.Text.{AllBelow}

pub AllBelow-prop : (n : ℕ) (cs : List ℕ) → IsProp (AllBelow n cs)
AllBelow-prop n [] = Unit-prop
AllBelow-prop n (c ∷ cs) = ×_prop (λ x y. le_prop x y) (AllBelow-prop n cs)
