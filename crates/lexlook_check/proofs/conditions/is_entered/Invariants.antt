use Rattle.std.proofs.Common.{◌≡◌, drop, map}
use Rattle.lexspec.specs.RuleViews.{rule_of}
use Rattle.lexlook_check.specs.Conditions.{is_entered}
use Rattle.lexlook_check.proofs.conditions.is_entered.Given as goal

abbrev pub invariant-loop-rule : goal.invariant-loop-rule
invariant-loop-rule l = is_entered (map rule_of (drop l.rule-index l.rules)) l.number ≡ is_entered (map rule_of l.rules) l.number
