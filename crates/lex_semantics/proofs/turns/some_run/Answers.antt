use Rattle.lex_semantics.proofs.SpecRun.{spec_run_exists}
use Rattle.lex_semantics.proofs.MachineRun.{machine_run_exists}
use Rattle.lex_semantics.proofs.turns.some_run.Goals as goal

pub returns-clause-specification : goal.returns-clause-specification
returns-clause-specification c = λ S sound x. spec_run_exists S sound x

pub returns-clause-machine : goal.returns-clause-machine
returns-clause-machine c = λ M laws x. machine_run_exists M laws x
