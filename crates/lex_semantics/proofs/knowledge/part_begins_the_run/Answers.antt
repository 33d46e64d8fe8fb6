use Rattle.lex_semantics.proofs.Written as Written
use Rattle.lex_semantics.specs.Rules.{rules_of}
use Rattle.lex_semantics.specs.Machine.{rules_of_machine}
use Rattle.lex_semantics.proofs.knowledge.part_begins_the_run.Goals as goal

pub returns-clause-specification : goal.returns-clause-specification
returns-clause-specification c = λ S x n s t v w d h going turn part run. Written.part_begins (rules_of S) x n s t v w d h going turn part run

pub returns-clause-machine : goal.returns-clause-machine
returns-clause-machine c = λ M x n s t v w d h going turn part run. Written.part_begins (rules_of_machine M) x n s t v w d h going turn part run
