use Rattle.std.proofs.Common.{◌≡◌, ◌++◌, flat_map, take}
use Rattle.lexlook_specs.specs.Pictures.{rule_label}
use Rattle.lexlook_specs.proofs.picture.nodes.add_rules.Given as goal

abbrev pub invariant-loop-rule : goal.invariant-loop-rule
invariant-loop-rule l = l.text.items ≡ l.fn.text.items ++ flat_map (rule_label l.lines) (take l.rule-index l.rules)
