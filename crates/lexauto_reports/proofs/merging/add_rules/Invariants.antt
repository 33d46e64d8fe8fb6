use Rattle.std.proofs.Common.{◌≡◌, ◌++◌, map, take}
use Rattle.lexspec.specs.RuleViews.{rule_of}
use Rattle.lexauto_reports.specs.Warned.{of_rule}
use Rattle.lexauto_reports.proofs.merging.add_rules.Given as goal

abbrev pub invariant-loop-rule : goal.invariant-loop-rule
invariant-loop-rule l = l.warnings.items ≡ l.fn.warnings.items ++ map (of_rule (map rule_of l.rules)) (take l.rule-index l.useless)
