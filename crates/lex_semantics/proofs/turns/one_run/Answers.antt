use Rattle.lex_semantics.proofs.Once as Once
use Rattle.lex_semantics.specs.Rules.{rules_of}
use Rattle.lex_semantics.specs.Machine.{rules_of_machine}
use Rattle.lex_semantics.proofs.turns.one_run.Goals as goal

pub returns-clause-specification : goal.returns-clause-specification
returns-clause-specification c = λ S x v w d e h k. Once.one_run (rules_of S) x v w d e h k

pub returns-clause-machine : goal.returns-clause-machine
returns-clause-machine c = λ M x v w d e h k. Once.one_run (rules_of_machine M) x v w d e h k
