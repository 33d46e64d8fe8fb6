use Rattle.lex_semantics.proofs.Demanded as Demanded
use Rattle.lex_semantics.proofs.turns.some_state.Goals as goal

pub returns-clause-specification : goal.returns-clause-specification
returns-clause-specification c = λ S sound x n. Demanded.spec_state S sound x n

pub returns-clause-machine : goal.returns-clause-machine
returns-clause-machine c = λ M laws x n. Demanded.machine_state M laws x n
