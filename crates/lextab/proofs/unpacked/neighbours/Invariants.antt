use Rattle.lextab.specs.Unpacked.{AreNeighbours}
use Rattle.lextab.proofs.unpacked.neighbours.Given as goal

abbrev pub invariant-loop-byte : goal.invariant-loop-byte
invariant-loop-byte l = AreNeighbours l.next l.states l.class_of.items l.heads.items l.byte
