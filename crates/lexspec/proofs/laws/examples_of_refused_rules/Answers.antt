use Rattle.lexspec.proofs.RefusedRules as Refused
use Rattle.lexspec.proofs.laws.examples_of_refused_rules.Goals as goal

pub returns-clause-rules : goal.returns-clause-rules
returns-clause-rules c = Refused.no_rules

pub returns-clause-bar : goal.returns-clause-bar
returns-clause-bar c = Refused.no_bar_waits
