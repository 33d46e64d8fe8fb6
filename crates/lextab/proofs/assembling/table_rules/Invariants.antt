use Rattle.std.proofs.Common.{◌≡◌, ◌++◌, map, drop}
use Rattle.lexspec.specs.RuleViews.{rule_of as rule_in}
use Rattle.lextab_packed.specs.Checks.{Each, HasText}
use Rattle.lextab_packed.specs.Views.{table_rule_of}
use Rattle.lextab.specs.Assembled.{action_in}
use Rattle.lextab.proofs.assembling.table_rules.Given as goal

abbrev pub invariant-loop-i : goal.invariant-loop-i
invariant-loop-i l =
    (map table_rule_of l.all.items ++ map action_in (map rule_in (drop l.i l.rules)) ≡ map action_in (map rule_in l.rules))
    × Each (λ i r. Each HasText 0 r.statements) 0 (map table_rule_of l.all.items)
