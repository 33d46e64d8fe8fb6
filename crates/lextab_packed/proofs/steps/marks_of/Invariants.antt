use Rattle.std.proofs.Common.{◌≡◌, ℕ, ◌<◌, length, slice_index}
use Rattle.lex_semantics.specs.Text.{flag}
use Rattle.lextab_packed.specs.Flats.{as_target, kind_of}
use Rattle.lextab_packed.specs.Machines.{table_machine, flags_of}
use Rattle.lextab_packed.proofs.steps.marks_of.Given as goal

abbrev pub invariant-loop-state : goal.invariant-loop-state
invariant-loop-state l =
    (length l.marks.items ≡ l.state)
    × ((s : ℕ) → s < l.state → slice_index l.marks.items s ≡ as_target (flag (flags_of l.tables) s) (kind_of (table_machine l.tables) s) s)
