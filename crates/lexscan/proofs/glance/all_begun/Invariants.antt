use Rattle.std.proofs.Common.{◌≡◌, drop, map}
use Rattle.lex_machine.specs.Views.{statement_of}
use Rattle.lexscan_matching.specs.Glanced.{all_begun}
use Rattle.lexscan.proofs.glance.all_begun.Given as goal

abbrev pub invariant-loop-statement : goal.invariant-loop-statement
invariant-loop-statement l = all_begun (map statement_of (drop l.statement-index l.statements)) l.after ≡ all_begun (map statement_of l.statements) l.condition
