use Rattle.std.proofs.Common.{◌≡◌, ◌≤◌, ◌∷◌, ◌++◌, drop, length}
use Rattle.std.specs.List.{filter}
use Rattle.lexauto.specs.Sets.{marked_by}
use Rattle.lexauto.proofs.key_packing.plain_marked.Given as goal

abbrev pub invariant-loop-position : goal.invariant-loop-position
invariant-loop-position l = record {
  told : l.plain.items ++ filter (marked_by l.places l.marks) (drop l.position-index l.positions) ≡ 1 ∷ 1 ∷ filter (marked_by l.places l.marks) l.positions;
  some : 2 ≤ length l.plain.items;
}
