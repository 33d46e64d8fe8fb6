use Rattle.std.proofs.Common.{◌≡◌, ◌++◌, drop}
use Rattle.lexlook_tables.specs.Same.{asked}
use Rattle.lexlook_tables.proofs.same.deeds.asked.Given as goal

abbrev pub invariant-loop-rule : goal.invariant-loop-rule
invariant-loop-rule g l = l.asked.items ++ asked l.single (g.M.Machine.machine l.machine) (drop l.rule-index l.rules) ≡ asked l.single (g.M.Machine.machine l.machine) l.rules
