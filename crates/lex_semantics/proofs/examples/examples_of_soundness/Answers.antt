use Rattle.lex_semantics.proofs.ExampleSoundness as Example
use Rattle.lex_semantics.proofs.examples.examples_of_soundness.Goals as goal

pub returns-clause-head_cuts : goal.returns-clause-head_cuts
returns-clause-head_cuts c = Example.head_cuts

pub returns-clause-trail_does_not : goal.returns-clause-trail_does_not
returns-clause-trail_does_not c = Example.trail_does_not

pub returns-clause-shorter_cut : goal.returns-clause-shorter_cut
returns-clause-shorter_cut c = Example.shorter_cut

pub returns-clause-trail_cuts : goal.returns-clause-trail_cuts
returns-clause-trail_cuts c = Example.trail_cuts

pub returns-clause-longest_end : goal.returns-clause-longest_end
returns-clause-longest_end c = Example.longest_end

pub returns-clause-longer_end : goal.returns-clause-longer_end
returns-clause-longer_end c = Example.longer_end
