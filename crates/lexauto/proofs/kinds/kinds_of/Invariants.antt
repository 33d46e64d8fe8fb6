use Rattle.std.proofs.Common.{◌≡◌, ◌≤◌, length}
use Rattle.lexauto_positions.specs.Letters.{reads_at}
use Rattle.lexauto.specs.Moving.{AreKinds}
use Rattle.lexauto.proofs.kinds.kinds_of.Given as goal

abbrev pub invariant-loop-byte : goal.invariant-loop-byte
invariant-loop-byte l = record {
  len : length l.kinds.places.items ≡ l.byte;
  few : length l.kinds.kinds.items ≤ length l.kinds.places.items;
  are : AreKinds (λ b q. reads_at l.letters b q 0) l.kinds.kinds.items l.kinds.places.items;
}
