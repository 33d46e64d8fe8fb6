use Rattle.lexauto_dfa.specs.Sources.{AreChains}
use Rattle.lexauto_dfa.proofs.least.sources.chains_of.Given as goal

abbrev pub invariant-loop-x : goal.invariant-loop-x
invariant-loop-x l = AreChains l.row l.last.items l.before.items l.x
