use Rattle.std.proofs.Common.{◌≡◌, ◌++◌, ◌-◌, length}
use Rattle.lexspec.specs.Views.{spec_of, rules_in}
use Rattle.lexauto_positions.specs.RuleAutomaton.{is_active}
use Rattle.lex_semantics.specs.Text.{listed}
use Rattle.lexauto.proofs.starts.start_key.Given as goal

abbrev pub invariant-loop-i : goal.invariant-loop-i
invariant-loop-i l =
    l.numbers.items ++ listed (is_active (spec_of l.spec) l.number l.line_start) l.i (length (rules_in (spec_of l.spec)) - l.i)
    ≡ listed (is_active (spec_of l.spec) l.number l.line_start) 0 (length (rules_in (spec_of l.spec)))
