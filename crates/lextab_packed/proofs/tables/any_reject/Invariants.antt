use Rattle.std.proofs.Common.{◌≡◌, drop, map}
use Rattle.lextab_packed.specs.Checks.{some_rule_rejects}
use Rattle.lextab_packed.specs.Views.{table_rule_of}
use Rattle.lextab_packed.proofs.tables.any_reject.Given as goal

abbrev pub invariant-loop-rule : goal.invariant-loop-rule
invariant-loop-rule l = some_rule_rejects (map table_rule_of (drop l.rule-index l.rules)) ≡ some_rule_rejects (map table_rule_of l.rules)
