use Rattle.std.proofs.Common.{◌≡◌, ◌++◌, map}
use Rattle.std.specs.Vec.Iter.{into_iter_items}
use Rattle.lexspec.specs.RuleViews.{rule_of}
use Rattle.lexlook_specs.specs.Rejecting.{rejecting_rule}
use Rattle.lexlook_specs.proofs.words.actions.rejecting_rules.Given as goal

abbrev pub invariant-loop-rule : goal.invariant-loop-rule
invariant-loop-rule l = map rule_of l.rejecting.items ++ map rejecting_rule (map rule_of (into_iter_items l.rule-iterator)) ≡ map rejecting_rule (map rule_of l.fn.rules.items)
