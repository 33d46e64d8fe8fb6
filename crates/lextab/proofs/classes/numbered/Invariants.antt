use Rattle.lextab.specs.Searching.{AreNumbered}
use Rattle.lextab.proofs.classes.numbered.Given as goal

abbrev pub invariant-loop-byte : goal.invariant-loop-byte
invariant-loop-byte l = AreNumbered l.lead l.class_of.items l.heads.items l.byte
