use Rattle.lex_semantics.proofs.SameFront.{same_after_front}
use Rattle.lex_semantics.specs.Rules.{rules_of}
use Rattle.lex_semantics.specs.Machine.{rules_of_machine}
use Rattle.lex_semantics.proofs.Cuts.{laws_of}
use Rattle.lex_semantics.proofs.MachineLaws.{machine_laws}
use Rattle.lex_semantics.proofs.demand.same_whatever_follows.Goals as goal

pub returns-clause-specification : goal.returns-clause-specification
returns-clause-specification c = λ S sound front a b text_a text_b n s f le h. same_after_front (rules_of S) (laws_of S sound) front a b text_a text_b n s f le h

pub returns-clause-machine : goal.returns-clause-machine
returns-clause-machine c = λ M laws front a b text_a text_b n s f le h. same_after_front (rules_of_machine M) (machine_laws M laws) front a b text_a text_b n s f le h
