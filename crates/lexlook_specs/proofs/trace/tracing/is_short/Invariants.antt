use Rattle.std.proofs.Common.{◌≡◌, ◌≤◌, ◌+◌, drop, map, length}
use Rattle.std.specs.List.{filter}
use Rattle.lex_machine.specs.Views.{statement_of}
use Rattle.lexlook_specs.specs.Traced.{steers}
use Rattle.lexlook_specs.proofs.trace.tracing.is_short.Given as goal

-- the statements so far, and those of the rest that write nothing
abbrev pub invariant-loop-statement : goal.invariant-loop-statement
invariant-loop-statement l = record {
  few : l.count ≤ 3 + l.statement-index;
  same : l.count + length (filter steers (map statement_of (drop l.statement-index l.rule.statements.items))) ≡ 3 + length (filter steers (map statement_of l.rule.statements.items));
}
