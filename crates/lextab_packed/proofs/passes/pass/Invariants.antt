use Rattle.std.proofs.Common.{◌≡◌, ◌+◌, ◌≤◌, length}
use Rattle.lextab_packed.specs.Passes.{AllGoOn, SettledFrom}
use Rattle.lextab_packed.specs.Views.{table_of}
use Rattle.lextab_packed.proofs.passes.pass.Given as goal

abbrev pub invariant-states : goal.invariant-states
invariant-states l = record {
  few : l.count + l.state ≤ length l.parts.rows.items;
  len : length l.live.items ≡ length l.parts.rows.items;
  sound : AllGoOn (table_of l.parts) l.fn.live.items → AllGoOn (table_of l.parts) l.live.items;
  settled : l.count ≡ 0 → SettledFrom (table_of l.parts) l.bytes l.accepting l.live.items l.state;
}

abbrev pub decreases-states : goal.decreases-states
decreases-states l = l.state
