use Rattle.std.proofs.Common.{◌≡◌, ℕ, ◌<◌}
use Rattle.std.specs.Prelude.{slice_index}
use Rattle.lextab_packed.specs.Alike.{IsSpread}
use Rattle.lextab_packed.specs.Views.{table_of}
use Rattle.lextab_packed.proofs.Stepping.{class_target}
use Rattle.lextab_packed.proofs.rows.turn_to.Given as goal

abbrev pub invariant-loop-class : goal.invariant-loop-class
invariant-loop-class l =
    IsSpread l.parts.class_of.items l.row.by_class l.row.by_byte
    × ((k : ℕ) → k < l.class → slice_index l.row.by_class k ≡ slice_index l.marks (class_target (table_of l.parts) l.state k))
