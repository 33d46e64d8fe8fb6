use Rattle.lex_semantics.proofs.ExampleMachines as Example
use Rattle.lex_semantics.proofs.examples.examples_of_machines.Goals as goal

pub returns-clause-five_states : goal.returns-clause-five_states
returns-clause-five_states c = Example.five_states

pub returns-clause-no_fewer : goal.returns-clause-no_fewer
returns-clause-no_fewer c = Example.no_fewer

pub returns-clause-some_state : goal.returns-clause-some_state
returns-clause-some_state c = Example.some_state

pub returns-clause-no_reject : goal.returns-clause-no_reject
returns-clause-no_reject c = Example.no_reject

pub returns-clause-not_some : goal.returns-clause-not_some
returns-clause-not_some c = Example.not_some

pub returns-clause-some_reject : goal.returns-clause-some_reject
returns-clause-some_reject c = Example.some_reject

pub returns-clause-not_none : goal.returns-clause-not_none
returns-clause-not_none c = Example.not_none

pub returns-clause-prints_twice : goal.returns-clause-prints_twice
returns-clause-prints_twice c = Example.prints_twice
