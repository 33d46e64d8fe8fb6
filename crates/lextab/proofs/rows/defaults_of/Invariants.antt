use Rattle.std.proofs.Common.{◌≡◌, ℕ, ◌<◌, length, slice_index}
use Rattle.lextab.specs.Columns.{IsDefault}
use Rattle.lextab.specs.Searching.{by_head}
use Rattle.lextab.proofs.rows.defaults_of.Given as goal

abbrev pub invariant-loop-state : goal.invariant-loop-state
invariant-loop-state l = record {
  row : length l.row.items ≡ length l.heads;
  len : length l.defaults.items ≡ l.state;
  each : (s : ℕ) → s < l.state → IsDefault (by_head l.next l.heads s) (length l.heads) (slice_index l.defaults.items s);
  none : (t : ℕ) → slice_index l.counts t ≡ 0;
}
