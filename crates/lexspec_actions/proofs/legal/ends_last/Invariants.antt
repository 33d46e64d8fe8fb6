use Rattle.std.proofs.Common.{◌≡◌, drop, map}
use Rattle.lex_semantics.specs.Legal.{ends_last}
use Rattle.lexspec_actions.specs.Views.{statement_of}
use Rattle.lexspec_actions.proofs.LegalLemmas.{ends_after}
use Rattle.lexspec_actions.proofs.legal.ends_last.Given as goal

abbrev pub invariant-loop-statement : goal.invariant-loop-statement
invariant-loop-statement l = ends_after l.ended (map statement_of (drop l.statement-index l.statements)) ≡ ends_last (map statement_of l.statements)
