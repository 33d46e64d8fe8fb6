use Rattle.std.proofs.Common.{◌≡◌, drop, map}
use Rattle.lex_machine.specs.Views.{statement_of}
use Rattle.lex_semantics.specs.Legal.{has_more}
use Rattle.lexlook_calls.proofs.reasons.any_more.Given as goal

abbrev pub invariant-loop-statement : goal.invariant-loop-statement
invariant-loop-statement l = has_more (map statement_of (drop l.statement-index l.statements)) ≡ has_more (map statement_of l.statements)
