use Rattle.std.proofs.Common.{◌≡◌, ◌++◌, map}
use Rattle.std.specs.Vec.Iter.{into_iter_items}
use Rattle.lexspec.specs.RuleViews.{rule_of}
use Rattle.lexlook_specs.specs.Traced.{traced_rule}
use Rattle.lexlook_specs.proofs.trace.rules.telling_rules.Given as goal

abbrev pub invariant-loop-rule : goal.invariant-loop-rule
invariant-loop-rule l = map rule_of l.told.items ++ map traced_rule (map rule_of (into_iter_items l.rule-iterator)) ≡ map traced_rule (map rule_of l.fn.rules.items)
