use Rattle.std.proofs.Common.{◌≡◌, drop, map}
use Rattle.lex_machine.specs.Views.{statement_of}
use Rattle.lex_machine.specs.Glances.{are_simple}
use Rattle.lex_machine.proofs.glance.are_simple.Given as goal

abbrev pub invariant-loop-statement : goal.invariant-loop-statement
invariant-loop-statement l = are_simple (map statement_of (drop l.statement-index l.statements)) ≡ are_simple (map statement_of l.statements)
