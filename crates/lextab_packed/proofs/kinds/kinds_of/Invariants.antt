use Rattle.std.proofs.Common.{◌≡◌, ℕ, ◌<◌, length, Some}
use Rattle.std.specs.Prelude.{slice_get}
use Rattle.lextab_packed.specs.Flats.{kind_of}
use Rattle.lextab_packed.specs.Machines.{table_machine}
use Rattle.lextab_packed.proofs.kinds.kinds_of.Given as goal

abbrev pub invariant-loop-state : goal.invariant-loop-state
invariant-loop-state l =
    (length l.kinds.items ≡ l.state) × ((s : ℕ) → s < l.state → slice_get l.kinds.items s ≡ Some (kind_of (table_machine l.tables) s))
