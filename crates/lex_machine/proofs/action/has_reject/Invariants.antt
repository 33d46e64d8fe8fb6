use Rattle.std.proofs.Common.{◌≡◌, drop, map}
use Rattle.lex_semantics.specs.Spec.{has_reject}
use Rattle.lex_machine.specs.Views.{statement_of}
use Rattle.lex_machine.proofs.action.has_reject.Given as goal

abbrev pub invariant-loop-statement : goal.invariant-loop-statement
invariant-loop-statement l = has_reject (map statement_of (drop l.statement-index l.statements)) ≡ has_reject (map statement_of l.statements)
