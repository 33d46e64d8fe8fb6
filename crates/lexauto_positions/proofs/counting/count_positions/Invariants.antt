use Rattle.std.proofs.Common.{◌≡◌, ◌≤◌, ◌+◌, drop, map}
use Rattle.lex_semantics.specs.Subsets.{all_positions}
use Rattle.lexspec.specs.RuleViews.{rule_of}
use Rattle.lexauto_positions.proofs.counting.count_positions.Given as goal

abbrev pub invariant-loop-rule : goal.invariant-loop-rule
invariant-loop-rule l = record {
  within : l.sum ≤ l.limit;
  total : l.sum + all_positions (map rule_of (drop l.rule-index l.rules)) ≡ all_positions (map rule_of l.rules);
}
