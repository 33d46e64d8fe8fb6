use Rattle.std.proofs.Common.{◌≡◌, ◌≤◌, drop, length}
use Rattle.std.specs.List.{filter}
use Rattle.lexauto.specs.Sets.{marked_by}
use Rattle.lexauto.proofs.sets.are_marked.Given as goal

abbrev pub invariant-loop-number : goal.invariant-loop-number
invariant-loop-number l = record {
  few : l.at ≤ length l.kept;
  told : drop l.at l.kept ≡ filter (marked_by l.places l.marks) (drop l.number-index l.numbers) → l.kept ≡ filter (marked_by l.places l.marks) l.numbers;
}
