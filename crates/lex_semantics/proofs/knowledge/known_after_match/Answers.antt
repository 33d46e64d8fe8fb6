use Rattle.lex_semantics.proofs.Step as Step
use Rattle.lex_semantics.specs.Rules.{rules_of}
use Rattle.lex_semantics.specs.Machine.{rules_of_machine}
use Rattle.lex_semantics.proofs.Cuts.{laws_of}
use Rattle.lex_semantics.proofs.MachineLaws.{machine_laws}
use Rattle.lex_semantics.proofs.knowledge.known_after_match.Goals as goal

pub returns-clause-specification : goal.returns-clause-specification
returns-clause-specification c = λ S sound given more at_end n s r going before none h dead far. Step.scanned_match (rules_of S) (laws_of S sound) given more at_end n s r going before none h dead far

pub returns-clause-machine : goal.returns-clause-machine
returns-clause-machine c = λ M laws given more at_end n s r going before none h dead far. Step.scanned_match (rules_of_machine M) (machine_laws M laws) given more at_end n s r going before none h dead far
