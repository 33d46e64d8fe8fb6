use Rattle.std.proofs.Common.{◌≡◌, length}
use Rattle.lextab_packed.specs.Passes.{AllGoOn}
use Rattle.lextab_packed.specs.Views.{table_of}
use Rattle.lextab_packed.proofs.passes.going_on_soon.Given as goal

abbrev pub invariant-loop-number : goal.invariant-loop-number
invariant-loop-number l = record {
  len : length l.live.items ≡ length l.parts.rows.items;
  sound : AllGoOn (table_of l.parts) l.live.items;
}
