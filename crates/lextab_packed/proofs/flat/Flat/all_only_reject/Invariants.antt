use Rattle.std.proofs.Common.{◌≡◌, drop}
use Rattle.lextab_packed.specs.FlatViews.{tables_of}
use Rattle.lextab_packed.specs.Machines.{table_machine}
use Rattle.lextab_packed.specs.Rejections.{all_only_reject}
use Rattle.lextab_packed.proofs.flat.Flat.all_only_reject.Given as goal

abbrev pub invariant-loop-rule : goal.invariant-loop-rule
invariant-loop-rule l = all_only_reject (table_machine (tables_of l.self)) (drop l.rule-index l.rules) ≡ all_only_reject (table_machine (tables_of l.self)) l.rules
