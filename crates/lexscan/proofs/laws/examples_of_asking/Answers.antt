use Rattle.lexscan.proofs.AskingComputed as Computed
use Rattle.lexscan.proofs.laws.examples_of_asking.Goals as goal

pub returns-clause-asking : goal.returns-clause-asking
returns-clause-asking c = Computed.asking

pub returns-clause-together : goal.returns-clause-together
returns-clause-together c = Computed.together

pub returns-clause-given : goal.returns-clause-given
returns-clause-given c = Computed.given

pub returns-clause-known : goal.returns-clause-known
returns-clause-known c = Computed.known

pub returns-clause-order : goal.returns-clause-order
returns-clause-order c = Computed.order
