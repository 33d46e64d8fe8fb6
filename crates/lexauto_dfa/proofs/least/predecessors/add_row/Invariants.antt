use Rattle.std.proofs.Common.{◌≡◌, ℕ, ◌<◌, length, slice_index}
use Rattle.lexauto_dfa.specs.Predecessors.{Allows, AreBelow, known_of}
use Rattle.lexauto_dfa.proofs.least.predecessors.add_row.Given as goal

abbrev pub invariant-loop-state : goal.invariant-loop-state
invariant-loop-state l = record {
  len : length l.known ≡ length l.row;
  below : AreBelow (length l.row) l.known;
  keeps : (t x : ℕ) → Allows (known_of l.fn.known t) x → Allows (known_of l.known t) x;
  allows : (x : ℕ) → x < l.state → Allows (known_of l.known (slice_index l.row x)) x;
}
