use Rattle.lexauto_dfa.proofs.ComputedLeast as Least
use Rattle.lexauto_dfa.proofs.least.laws.examples_of_least.Goals as goal

pub returns-clause-least : goal.returns-clause-least
returns-clause-least c = Least.least_of_a

pub returns-clause-many : goal.returns-clause-many
returns-clause-many c = Least.not_least

pub returns-clause-numbers : goal.returns-clause-numbers
returns-clause-numbers c = Least.not_numbered
