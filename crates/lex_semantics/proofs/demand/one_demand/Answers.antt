use Rattle.lex_semantics.specs.Rules.{rules_of}
use Rattle.lex_semantics.specs.Machine.{rules_of_machine}
use Rattle.lex_semantics.proofs.Both.{one_after}
use Rattle.lex_semantics.proofs.demand.one_demand.Goals as goal

pub returns-clause-specification : goal.returns-clause-specification
returns-clause-specification c = λ S x n s t f g h k. one_after (rules_of S) x n s t f g h k

pub returns-clause-machine : goal.returns-clause-machine
returns-clause-machine c = λ M x n s t f g h k. one_after (rules_of_machine M) x n s t f g h k
