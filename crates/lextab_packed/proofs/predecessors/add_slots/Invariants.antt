use Rattle.std.proofs.Common.{◌≡◌, ℕ, ◌<◌, length}
use Rattle.lextab_packed.specs.Predecessors.{IsSource, StaySources}
use Rattle.lextab_packed.specs.Steps.{slot_at}
use Rattle.lextab_packed.specs.Views.{table_of}
use Rattle.lextab_packed.proofs.predecessors.add_slots.Given as goal

abbrev pub invariant-loop-place : goal.invariant-loop-place
invariant-loop-place l = record {
  len : length l.sources.items ≡ length l.parts.rows.items;
  added : (i : ℕ) → i < l.place → IsSource l.sources.items (slot_at (table_of l.parts) i).next (slot_at (table_of l.parts) i).check;
  stay : StaySources l.fn.sources.items l.sources.items;
}
