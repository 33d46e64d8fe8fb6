use Rattle.std.proofs.Common.{◌≡◌, ◌++◌, map, drop}
use Rattle.lex_semantics.specs.Text.{IsText}
use Rattle.lexspec_actions.specs.Views.{condition_of as condition_in}
use Rattle.lextab_packed.specs.Checks.{Each}
use Rattle.lextab_packed.specs.Views.{condition_of}
use Rattle.lextab.specs.Assembled.{start_in, conditions_with}
use Rattle.lextab.proofs.assembling.table_conditions.Given as goal

abbrev pub invariant-loop-i : goal.invariant-loop-i
invariant-loop-i l =
    (map condition_of l.all.items ++ conditions_with (start_in l.starts l.line_starts) l.i (map condition_in (drop l.i l.conditions)) ≡ conditions_with (start_in l.starts l.line_starts) 0 (map condition_in l.conditions))
    × Each (λ i c. IsText c.end.print) 0 (map condition_of l.all.items)
