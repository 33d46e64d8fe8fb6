use Rattle.std.proofs.Common.{◌≡◌, ℕ, ◌*◌, ◌/◌, ◌%◌, ◌<◌, ◌≤◌, length}
use Rattle.std.specs.Prelude.{slice_index}
use Rattle.lextab_packed.specs.Flats.{marked_target}
use Rattle.lextab_packed.specs.Steps.{step_of}
use Rattle.lextab_packed.specs.Views.{table_of}
use Rattle.lextab_packed.proofs.steps.mark_rows.Given as goal

abbrev pub invariant-loop-place : goal.invariant-loop-place
invariant-loop-place l =
    (length l.rows.items ≡ 256 * length l.tables.parts.rows.items)
    × ((k : ℕ) → k < l.place → slice_index l.rows.items k ≡ marked_target l.tables (k / 256) (k % 256))
    × ((k : ℕ) → l.place ≤ k → k < length l.rows.items → slice_index l.rows.items k ≡ step_of (table_of l.tables.parts) (k / 256) (k % 256))
