use Rattle.std.proofs.Common.{◌≡◌, ℕ, ◌<◌, length, slice_index}
use Rattle.lexauto_dfa.specs.Letters.{row_of}
use Rattle.lexauto_dfa.specs.Predecessors.{Allows, AreBelow, known_of}
use Rattle.lexauto_dfa.proofs.least.predecessors.predecessors_of.Given as goal

abbrev pub invariant-loop-letter : goal.invariant-loop-letter
invariant-loop-letter l = record {
  len : length l.known.items ≡ l.states;
  below : AreBelow l.states l.known.items;
  allow : (a x : ℕ) → a < l.letter-index → x < l.states → Allows (known_of l.known.items (slice_index (row_of l.letters a) x)) x;
}
