use Rattle.std.proofs.Common.{◌≡◌, ℕ, ◌+◌, ◌*◌, ◌<◌, length, slice_index}
use Rattle.lexauto_dfa.proofs.least.letters.column.Given as goal

abbrev pub invariant-loop-state : goal.invariant-loop-state
invariant-loop-state l = record {
  len : length l.column.items ≡ l.states;
  each : (x : ℕ) → x < l.state → slice_index l.column.items x ≡ slice_index l.next (x * 256 + l.byte);
}
