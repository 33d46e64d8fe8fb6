use Rattle.std.proofs.Common.{◌≡◌, drop, map}
use Rattle.lexspec.specs.RuleViews.{rule_of}
use Rattle.lexlook_specs.specs.Traced.{are_short}
use Rattle.lexlook_specs.proofs.trace.tracing.long_rule.Given as goal

abbrev pub invariant-loop-rule : goal.invariant-loop-rule
invariant-loop-rule l = are_short (map rule_of (drop l.rule-index l.rules)) ≡ are_short (map rule_of l.rules)
