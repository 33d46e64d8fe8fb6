use Rattle.std.proofs.Common.{◌≡◌, map, drop}
use Rattle.lextab_file.specs.File.{any_stack}
use Rattle.lextab_packed.specs.Views.{table_rule_of}
use Rattle.lextab_file.proofs.version.any_stack.Given as goal

abbrev pub invariant-loop-rule : goal.invariant-loop-rule
invariant-loop-rule l = any_stack (map table_rule_of (drop l.rule-index l.rules)) ≡ any_stack (map table_rule_of l.rules)
