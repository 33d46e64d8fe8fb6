use Rattle.std.proofs.Common.{◌≡◌, map, drop}
use Rattle.lextab_file.specs.File.{has_stack}
use Rattle.lex_machine.specs.Views.{statement_of}
use Rattle.lextab_file.proofs.version.has_stack.Given as goal

abbrev pub invariant-loop-statement : goal.invariant-loop-statement
invariant-loop-statement l = has_stack (map statement_of (drop l.statement-index l.statements)) ≡ has_stack (map statement_of l.statements)
