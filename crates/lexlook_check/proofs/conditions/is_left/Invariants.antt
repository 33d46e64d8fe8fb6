use Rattle.std.proofs.Common.{◌≡◌, drop, map, Some}
use Rattle.lexspec.specs.RuleViews.{rule_of}
use Rattle.lexspec_actions.specs.Views.{condition_of}
use Rattle.lexlook_check.specs.Conditions.{is_left}
use Rattle.lexlook_check.proofs.conditions.is_left.Given as goal

abbrev pub invariant-loop-rule : goal.invariant-loop-rule
invariant-loop-rule l = is_left (map rule_of (drop l.rule-index l.rules)) l.number (Some (condition_of l.condition)) ≡ is_left (map rule_of l.rules) l.number (Some (condition_of l.condition))
