use Rattle.lex_semantics.proofs.Both.{machine_after_exists}
use Rattle.lex_semantics.proofs.Demanded as Demanded
use Rattle.lex_semantics.proofs.demand.some_demand.Goals as goal

pub returns-clause-machine : goal.returns-clause-machine
returns-clause-machine c = λ M laws x n text. machine_after_exists M laws x text n

pub returns-clause-table : goal.returns-clause-table
returns-clause-table c = λ M S laws sound table x n text. Demanded.table_after_exists M S laws sound table x n text

pub returns-clause-specification : goal.returns-clause-specification
returns-clause-specification c = λ S sound x n text none. Demanded.never_no_demand S sound x n text none
