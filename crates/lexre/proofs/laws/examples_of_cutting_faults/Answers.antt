use Rattle.lexre.proofs.FaultsComputed as Computed
use Rattle.lexre.proofs.laws.examples_of_cutting_faults.Goals as goal

pub returns-clause-one_fault : goal.returns-clause-one_fault
returns-clause-one_fault c = Computed.one_fault

pub returns-clause-two_faults : goal.returns-clause-two_faults
returns-clause-two_faults c = Computed.two_faults

pub returns-clause-no_fault : goal.returns-clause-no_fault
returns-clause-no_fault c = Computed.no_fault
