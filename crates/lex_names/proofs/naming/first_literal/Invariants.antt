use Rattle.std.proofs.Common.{◌≡◌, drop, map}
use Rattle.lex_machine.specs.Views.{statement_of}
use Rattle.lex_names.specs.RuleNames.{first_literal}
use Rattle.lex_names.proofs.naming.first_literal.Given as goal

abbrev pub invariant-loop-statement : goal.invariant-loop-statement
invariant-loop-statement l = first_literal (map statement_of (drop l.statement-index l.statements)) ≡ first_literal (map statement_of l.statements)
