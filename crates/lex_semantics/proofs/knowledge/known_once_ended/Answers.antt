use Rattle.lex_semantics.proofs.Step as Step
use Rattle.lex_semantics.specs.Rules.{rules_of}
use Rattle.lex_semantics.specs.Machine.{rules_of_machine}
use Rattle.lex_semantics.proofs.knowledge.known_once_ended.Goals as goal

pub returns-clause-specification : goal.returns-clause-specification
returns-clause-specification c = λ S given at_end n s e is before. Step.scanned_ended (rules_of S) given at_end n s e is before

pub returns-clause-machine : goal.returns-clause-machine
returns-clause-machine c = λ M given at_end n s e is before. Step.scanned_ended (rules_of_machine M) given at_end n s e is before
