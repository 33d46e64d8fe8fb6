use Rattle.lex_semantics.proofs.Reaches as Reaches
use Rattle.lex_semantics.specs.Rules.{rules_of}
use Rattle.lex_semantics.specs.Machine.{rules_of_machine}
use Rattle.lex_semantics.proofs.demand.one_reach.Goals as goal

pub returns-clause-specification : goal.returns-clause-specification
returns-clause-specification c = λ S x p q r h k. Reaches.one_reach (rules_of S) x p q r h k

pub returns-clause-machine : goal.returns-clause-machine
returns-clause-machine c = λ M x p q r h k. Reaches.one_reach (rules_of_machine M) x p q r h k
