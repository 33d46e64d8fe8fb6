use Rattle.std.proofs.Common.{◌≡◌, map, take}
use Rattle.lexspec.specs.RuleViews.{rule_of}
use Rattle.lexkit.specs.Generated.{lines_of}
use Rattle.lexkit.proofs.making.lines_of.Given as goal

abbrev pub invariant-loop-rule : goal.invariant-loop-rule
invariant-loop-rule l = l.lines.items ≡ lines_of (map rule_of (take l.rule-index l.rules))
