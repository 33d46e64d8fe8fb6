use Rattle.lexspec.proofs.ComputedRules as Rule
use Rattle.lexspec.proofs.laws.examples_of_rules.Goals as goal

pub returns-clause-lists : goal.returns-clause-lists
returns-clause-lists c = Rule.condition_lists

pub returns-clause-actions : goal.returns-clause-actions
returns-clause-actions c = Rule.actions_cut

pub returns-clause-sides : goal.returns-clause-sides
returns-clause-sides c = Rule.sides_cut
