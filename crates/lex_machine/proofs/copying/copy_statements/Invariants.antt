use Rattle.std.proofs.Common.{◌≡◌, ◌++◌, map, drop}
use Rattle.lex_machine.specs.Views.{statement_of}
use Rattle.lex_machine.specs.Literals.{Each, HasText}
use Rattle.lex_machine.proofs.copying.copy_statements.Given as goal

abbrev pub invariant-loop-statement : goal.invariant-loop-statement
invariant-loop-statement l =
    (map statement_of l.copies.items ++ map statement_of (drop l.statement-index l.statements) ≡ map statement_of l.statements)
    × Each HasText 0 (map statement_of l.copies.items)
