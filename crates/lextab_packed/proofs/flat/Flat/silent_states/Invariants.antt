use Rattle.std.proofs.Common.{◌≡◌, ℕ, ◌<◌, length, Some}
use Rattle.std.specs.Prelude.{slice_get}
use Rattle.lextab_packed.specs.FlatViews.{tables_of}
use Rattle.lextab_packed.specs.Machines.{table_machine}
use Rattle.lextab_packed.specs.Rejections.{all_only_reject}
use Rattle.lextab_packed.proofs.flat.Flat.silent_states.Given as goal

abbrev pub invariant-loop-state : goal.invariant-loop-state
invariant-loop-state l =
    (length l.silent.items ≡ l.state)
    × ((s : ℕ) → s < l.state → slice_get l.silent.items s ≡ Some (all_only_reject (table_machine (tables_of l.self)) ((table_machine (tables_of l.self)).accepts s)))
