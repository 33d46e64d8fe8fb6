use Rattle.std.proofs.Common.{ℕ, ◌<◌}
use Rattle.std.specs.Prelude.{slice_index}
use Rattle.lexauto.proofs.sets.is_in_order.Given as goal

abbrev pub invariant-loop-number : goal.invariant-loop-number
invariant-loop-number l = record {
  increases : (i j : ℕ) → i < j → j < l.number-index → slice_index l.numbers i < slice_index l.numbers j;
  free : (j : ℕ) → j < l.number-index → slice_index l.numbers j < l.free;
  below : (j : ℕ) → j < l.number-index → slice_index l.numbers j < l.count;
}
