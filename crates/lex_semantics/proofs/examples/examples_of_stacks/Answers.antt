use Rattle.lex_semantics.proofs.ComputedExamples as Example
use Rattle.lex_semantics.proofs.examples.examples_of_stacks.Goals as goal

pub returns-clause-nested : goal.returns-clause-nested
returns-clause-nested c = Example.nested

pub returns-clause-pushes_the_next : goal.returns-clause-pushes_the_next
returns-clause-pushes_the_next c = Example.pushes_the_next

pub returns-clause-empty : goal.returns-clause-empty
returns-clause-empty c = Example.empty

pub returns-clause-full : goal.returns-clause-full
returns-clause-full c = Example.full

pub returns-clause-over_full : goal.returns-clause-over_full
returns-clause-over_full c = Example.over_full

pub returns-clause-kept_by_reject : goal.returns-clause-kept_by_reject
returns-clause-kept_by_reject c = Example.kept_by_reject
