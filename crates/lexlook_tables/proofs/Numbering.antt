-- Statements with the numbers that their conditions have in the second machine.
use Rattle.std.proofs.Common.{◌≡◌, ℕ, List, [], ◌∷◌, map, refl, ap}
use Rattle.lex_machine.specs.Views.{statement_of}
use Rattle.lex_machine.specs.declared.action.Statement.{Statement}
use Rattle.lexlook_tables.specs.Same.{renumbered}

pub one_by_one : (order : List ℕ) (xs : List Statement) → map (λ s. renumbered order (statement_of s)) xs ≡ map (renumbered order) (map statement_of xs)
one_by_one order [] = refl
one_by_one order (x ∷ xs) = ap (λ l. renumbered order (statement_of x) ∷ l) (one_by_one order xs)
