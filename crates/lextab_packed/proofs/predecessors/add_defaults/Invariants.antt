use Rattle.std.proofs.Common.{◌≡◌, ℕ, ◌<◌, length}
use Rattle.lextab_packed.specs.Predecessors.{IsSource}
use Rattle.lextab_packed.specs.Steps.{row_in}
use Rattle.lextab_packed.specs.Views.{table_of}
use Rattle.lextab_packed.proofs.predecessors.add_defaults.Given as goal

abbrev pub invariant-loop-state : goal.invariant-loop-state
invariant-loop-state l = record {
  len : length l.sources.items ≡ length l.parts.rows.items;
  added : (s : ℕ) → s < l.state → IsSource l.sources.items (row_in (table_of l.parts) s).default_target s;
}
