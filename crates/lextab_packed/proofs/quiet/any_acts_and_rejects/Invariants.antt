use Rattle.std.proofs.Common.{◌≡◌, drop, map}
use Rattle.lextab_packed.specs.Rejections.{some_rule_acts_and_rejects}
use Rattle.lextab_packed.specs.Views.{table_rule_of}
use Rattle.lextab_packed.proofs.quiet.any_acts_and_rejects.Given as goal

abbrev pub invariant-loop-rule : goal.invariant-loop-rule
invariant-loop-rule l = some_rule_acts_and_rejects (map table_rule_of (drop l.rule-index l.rules)) ≡ some_rule_acts_and_rejects (map table_rule_of l.rules)
