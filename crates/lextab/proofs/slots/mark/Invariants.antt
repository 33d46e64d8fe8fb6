use Rattle.lextab.specs.Searching.{IsMarked}
use Rattle.lextab.proofs.slots.mark.Given as goal

abbrev pub invariant-loop-k : goal.invariant-loop-k
invariant-loop-k l = IsMarked l.fn.words l.entries l.base l.k-index l.words
