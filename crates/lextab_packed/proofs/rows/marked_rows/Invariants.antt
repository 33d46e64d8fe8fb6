use Rattle.std.proofs.Common.{◌≡◌, ℕ, ◌+◌, ◌*◌, ◌<◌, length, slice_index}
use Rattle.lextab_packed.specs.Alike.{IsSpread}
use Rattle.lextab_packed.specs.Steps.{step_of}
use Rattle.lextab_packed.specs.Views.{table_of}
use Rattle.lextab_packed.proofs.rows.marked_rows.Given as goal

abbrev pub invariant-loop-state : goal.invariant-loop-state
invariant-loop-state l =
    (length l.rows.items ≡ 256 * l.state)
    × ((s b : ℕ) → s < l.state → b < 256 → slice_index l.rows.items (256 * s + b) ≡ slice_index l.marks (step_of (table_of l.parts) s b))
    × IsSpread l.parts.class_of.items l.row.by_class l.row.by_byte
