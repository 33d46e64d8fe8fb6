use Rattle.lexauto_dfa.specs.Lists.{Labelled, look}
use Rattle.lexauto_dfa.proofs.least.labels.labels_of.Given as goal

abbrev pub invariant-loop-state : goal.invariant-loop-state
invariant-loop-state l = Labelled l.lists (look l.firsts) l.labels.items l.state
