use Rattle.std.proofs.Common.{◌≡◌, ◌+◌, ◌≤◌, ◌^◌, min, map, drop}
use Rattle.lex_semantics.specs.Subsets.{all_positions}
use Rattle.lexspec.specs.RuleViews.{rule_of}
use Rattle.lexlook_check.proofs.weights.all_positions.Given as goal

-- the sum so far and that of what is left
abbrev pub invariant-loop-rule : goal.invariant-loop-rule
invariant-loop-rule l = record {
  at_most : l.total ≤ 2 ^ 32;
  sum : min (2 ^ 32) (l.total + all_positions (map rule_of (drop l.rule-index l.rules))) ≡ min (2 ^ 32) (all_positions (map rule_of l.rules));
}
