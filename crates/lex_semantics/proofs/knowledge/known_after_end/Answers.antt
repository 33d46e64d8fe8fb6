use Rattle.lex_semantics.proofs.Step as Step
use Rattle.lex_semantics.specs.Rules.{rules_of}
use Rattle.lex_semantics.specs.Machine.{rules_of_machine}
use Rattle.lex_semantics.proofs.knowledge.known_after_end.Goals as goal

pub returns-clause-specification : goal.returns-clause-specification
returns-clause-specification c = λ S given at_end n s t going before at turn. Step.scanned_end (rules_of S) given at_end n s t going before at turn

pub returns-clause-machine : goal.returns-clause-machine
returns-clause-machine c = λ M given at_end n s t going before at turn. Step.scanned_end (rules_of_machine M) given at_end n s t going before at turn
