use Rattle.std.proofs.Common.{◌≡◌, ◌+◌, ◌≤◌, ◌∷◌, drop, length, replicate}
use Rattle.std.specs.Prelude.{slice_index}
use Rattle.std.specs.List.{filter}
use Rattle.lexauto.specs.Sets.{marked_by}
use Rattle.lexauto.specs.KeyPacking.{with_bits}
use Rattle.lexauto.proofs.key_packing.marked_in.Given as goal

abbrev pub invariant-loop-position : goal.invariant-loop-position
invariant-loop-position l = record {
  words : with_bits l.words.items (filter (marked_by l.places l.marks) (drop l.position-index l.positions)) ≡ with_bits (replicate l.count 0) (filter (marked_by l.places l.marks) l.positions);
  number : l.number + length (filter (marked_by l.places l.marks) (drop l.position-index l.positions)) ≡ length (filter (marked_by l.places l.marks) l.positions);
  few : l.number ≤ l.position-index;
  last : slice_index (l.last ∷ filter (marked_by l.places l.marks) (drop l.position-index l.positions)) (length (filter (marked_by l.places l.marks) (drop l.position-index l.positions)))
      ≡ slice_index (1 ∷ filter (marked_by l.places l.marks) l.positions) (length (filter (marked_by l.places l.marks) l.positions));
}
