use Rattle.lexauto_positions.proofs.FlowMeaning.{exits_is, enters_is}
use Rattle.lexauto_positions.proofs.laws.one_step.Goals as goal

pub returns-clause-exits : goal.returns-clause-exits
returns-clause-exits c = λ S t base i. exits_is S t base i

pub returns-clause-enters : goal.returns-clause-enters
returns-clause-enters c = λ S q t base i. enters_is S q t base i
