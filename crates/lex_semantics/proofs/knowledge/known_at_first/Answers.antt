use Rattle.lex_semantics.proofs.Step as Step
use Rattle.lex_semantics.specs.Rules.{rules_of}
use Rattle.lex_semantics.specs.Machine.{rules_of_machine}
use Rattle.lex_semantics.proofs.knowledge.known_at_first.Goals as goal

pub returns-clause-specification : goal.returns-clause-specification
returns-clause-specification c = λ S. Step.scanned_first (rules_of S)

pub returns-clause-machine : goal.returns-clause-machine
returns-clause-machine c = λ M. Step.scanned_first (rules_of_machine M)
