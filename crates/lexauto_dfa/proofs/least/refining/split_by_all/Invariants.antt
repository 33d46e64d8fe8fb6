use Rattle.lexauto_dfa.proofs.ByLetters.{CutBy}
use Rattle.lexauto_dfa.proofs.least.refining.split_by_all.Given as goal

abbrev pub invariant-loop-index : goal.invariant-loop-index
invariant-loop-index l = CutBy l.letters l.targets l.fn.blocks l.fn.waiting.items l.blocks l.waiting.items l.index
