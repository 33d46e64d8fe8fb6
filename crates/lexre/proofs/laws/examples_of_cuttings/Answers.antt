use Rattle.lexre.proofs.CuttingsComputed as Computed
use Rattle.lexre.proofs.laws.examples_of_cuttings.Goals as goal

pub returns-clause-ends : goal.returns-clause-ends
returns-clause-ends c = Computed.ends

pub returns-clause-slashes : goal.returns-clause-slashes
returns-clause-slashes c = Computed.slashes

pub returns-clause-dollars : goal.returns-clause-dollars
returns-clause-dollars c = Computed.dollars

pub returns-clause-none : goal.returns-clause-none
returns-clause-none c = Computed.no_cuttings
