use Rattle.std.proofs.Common.{◌≡◌, drop, replicate}
use Rattle.lexauto.specs.KeyPacking.{with_bits}
use Rattle.lexauto.proofs.key_packing.bits_of.Given as goal

abbrev pub invariant-loop-position : goal.invariant-loop-position
invariant-loop-position l = with_bits l.words.items (drop l.position-index l.positions) ≡ with_bits (replicate l.count 0) l.positions
