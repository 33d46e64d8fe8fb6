use Rattle.lex_semantics.proofs.PlainRun.{run_is}
use Rattle.lex_semantics.proofs.MachineRun.{machine_run_is}
use Rattle.lex_semantics.proofs.plain_program.plain_run.Goals as goal

pub returns-clause-specification : goal.returns-clause-specification
returns-clause-specification c = λ S x n w d e. run_is S x n w d e

pub returns-clause-machine : goal.returns-clause-machine
returns-clause-machine c = λ M laws x n w d e. machine_run_is M laws x n w d e
