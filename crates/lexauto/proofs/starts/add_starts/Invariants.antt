use Rattle.std.proofs.Common.{◌≡◌, ◌≤◌, length}
use Rattle.lexspec.specs.Views.{spec_of}
use Rattle.lexauto.specs.KeyPacking.{look_kept, kept_in}
use Rattle.lexauto.specs.WordKeys.{AreRoots, AreStartPlaces, Grows}
use Rattle.lexauto.proofs.starts.add_starts.Given as goal

abbrev pub invariant-loop-number : goal.invariant-loop-number
invariant-loop-number l = record {
  roots : AreRoots (spec_of l.spec) (look_kept l.table) (kept_in l.table.keys.items);
  grows : Grows (kept_in l.fn.table.keys.items) (kept_in l.table.keys.items);
  places : AreStartPlaces (spec_of l.spec) l.line_start (kept_in l.table.keys.items) l.places.items;
  len : length l.places.items ≡ l.number;
  room : length l.fn.table.keys.items ≤ l.limit → length l.table.keys.items ≤ l.limit;
}
