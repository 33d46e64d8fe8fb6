use Rattle.std.proofs.Common.{◌≡◌, ℕ, ◌<◌}
use Rattle.lextab_packed.specs.Machines.{table_machine}
use Rattle.lexlook_tables.specs.Same.{number_in}
use Rattle.lexlook_tables.proofs.same.tables.other_end.Given as goal

abbrev pub invariant-loop-condition : goal.invariant-loop-condition
invariant-loop-condition l = (c : ℕ) → c < l.condition → (table_machine l.left).ending c ≡ (table_machine l.right).ending (number_in l.order c)
