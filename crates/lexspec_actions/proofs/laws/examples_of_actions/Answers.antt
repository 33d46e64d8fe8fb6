use Rattle.lexspec_actions.proofs.ComputedActions as Action
use Rattle.lexspec_actions.proofs.laws.examples_of_actions.Goals as goal

pub returns-clause-each : goal.returns-clause-each
returns-clause-each c = Action.each_statement

pub returns-clause-several : goal.returns-clause-several
returns-clause-several c = Action.several_statements

pub returns-clause-none : goal.returns-clause-none
returns-clause-none c = Action.no_actions

pub returns-clause-ends : goal.returns-clause-ends
returns-clause-ends c = Action.end_actions
