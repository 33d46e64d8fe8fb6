use Rattle.std.proofs.Common.{◌≡◌, drop, map}
use Rattle.lextab_packed.specs.Rejections.{some_rule_only_rejects}
use Rattle.lextab_packed.specs.Views.{table_rule_of}
use Rattle.lextab_packed.proofs.quiet.any_only_rejects.Given as goal

abbrev pub invariant-loop-rule : goal.invariant-loop-rule
invariant-loop-rule l = some_rule_only_rejects (map table_rule_of (drop l.rule-index l.rules)) ≡ some_rule_only_rejects (map table_rule_of l.rules)
