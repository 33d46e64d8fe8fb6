use Rattle.lex_semantics.proofs.ComputedExamples as Example
use Rattle.lex_semantics.proofs.examples.examples_of_demand.Goals as goal

pub returns-clause-taken_by_exit : goal.returns-clause-taken_by_exit
returns-clause-taken_by_exit c = Example.taken_by_exit

pub returns-clause-taken_after_more : goal.returns-clause-taken_after_more
returns-clause-taken_after_more c = Example.taken_after_more

pub returns-clause-taken_by_keys : goal.returns-clause-taken_by_keys
returns-clause-taken_by_keys c = Example.taken_by_keys

pub returns-clause-held_after_backing_up : goal.returns-clause-held_after_backing_up
returns-clause-held_after_backing_up c = Example.held_after_backing_up

pub returns-clause-held_context : goal.returns-clause-held_context
returns-clause-held_context c = Example.held_context

pub returns-clause-held_one_by_one : goal.returns-clause-held_one_by_one
returns-clause-held_one_by_one c = Example.held_one_by_one
