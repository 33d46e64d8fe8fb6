-- Which condition of one scanner is which of another. (This project's.)
use Rattle.std.specs.Prelude.{◌≡◌, ℕ, ◌<◌, List, [], length, slice_get, Option, Some, None}
use Rattle.lex_semantics.specs.Spec.{Spec}
use Rattle.lexlook_tables.specs.Same.{number_in}
use Rattle.lexlook_calls.specs.Looks.{names_of}

-- each name has in the other list the number that stands at its place in the order, and there are as many names
pub record AreNamed (names others : List (List ℕ)) (order : List ℕ) : Type 0 where
  pub each : length names ≡ length others
  pub named : (c : ℕ) → c < length names → slice_get others (number_in order c) ≡ slice_get names c

-- The conditions of two specifications are paired by their names. Where one is a table file, they are so by their
-- numbers.
abbrev pub ArePaired : Option Spec → Option Spec → List ℕ → Type 0
ArePaired (Some S) (Some T) order = AreNamed (names_of S.conditions) (names_of T.conditions) order
ArePaired (Some S) None order = order ≡ []
ArePaired None given order = order ≡ []
