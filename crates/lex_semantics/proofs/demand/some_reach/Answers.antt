use Rattle.lex_semantics.proofs.Demanded as Demanded
use Rattle.lex_semantics.proofs.demand.some_reach.Goals as goal

pub returns-clause-machine : goal.returns-clause-machine
returns-clause-machine c = λ M laws x p text lt below. Demanded.machine_reaches M laws x p text lt

pub returns-clause-table : goal.returns-clause-table
returns-clause-table c = λ M S laws sound table x p text lt below. Demanded.table_reaches M S laws sound table x p text lt below

pub returns-clause-specification : goal.returns-clause-specification
returns-clause-specification c = λ S sound x p text lt none. Demanded.never_no_reach S sound x p text lt none
