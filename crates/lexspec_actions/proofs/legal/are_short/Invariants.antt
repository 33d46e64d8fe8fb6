use Rattle.std.proofs.Common.{◌≡◌, ◌+◌, ◌≤◌, drop, map, sum_by}
use Rattle.lexspec_actions.specs.Statements.{literal_bytes}
use Rattle.lexspec_actions.specs.Views.{statement_of}
use Rattle.lexspec_actions.proofs.legal.are_short.Given as goal
use Rattle.lex_semantics.specs.Limits.{max_literal_bytes}

abbrev pub invariant-loop-statement : goal.invariant-loop-statement
invariant-loop-statement l = record {
  rest : l.total + sum_by literal_bytes (map statement_of (drop l.statement-index l.statements)) ≡ sum_by literal_bytes (map statement_of l.statements);
  small : l.total ≤ max_literal_bytes;
}
