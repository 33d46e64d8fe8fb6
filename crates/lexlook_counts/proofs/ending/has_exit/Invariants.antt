use Rattle.std.proofs.Common.{◌≡◌, drop, map}
use Rattle.lex_machine.specs.Views.{statement_of}
use Rattle.lexlook_counts.specs.Ends.{has_exit}
use Rattle.lexlook_counts.proofs.ending.has_exit.Given as goal

abbrev pub invariant-loop-statement : goal.invariant-loop-statement
invariant-loop-statement l = has_exit (map statement_of (drop l.statement-index l.statements)) ≡ has_exit (map statement_of l.statements)
