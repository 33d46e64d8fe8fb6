use Rattle.std.proofs.Common.{◌≡◌, ◌+◌, ◌≤◌, drop, map}
use Rattle.lex_semantics.specs.Legal.{count_less}
use Rattle.lexspec_actions.specs.Views.{statement_of}
use Rattle.lexspec_actions.proofs.legal.count_less.Given as goal

abbrev pub invariant-loop-i : goal.invariant-loop-i
invariant-loop-i l = record {
  rest : l.count + count_less (map statement_of (drop l.i l.statements)) ≡ count_less (map statement_of l.statements);
  bound : l.count ≤ l.i;
}
