use Rattle.std.proofs.Common.{◌≡◌, drop, map}
use Rattle.lex_semantics.specs.Legal.{has_less}
use Rattle.lexspec_actions.specs.Views.{statement_of}
use Rattle.lexspec_actions.proofs.legal.has_less.Given as goal

abbrev pub invariant-loop-statement : goal.invariant-loop-statement
invariant-loop-statement l = has_less (map statement_of (drop l.statement-index l.statements)) ≡ has_less (map statement_of l.statements)
