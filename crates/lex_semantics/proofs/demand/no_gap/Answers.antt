use Rattle.lex_semantics.proofs.Reaches as Reaches
use Rattle.lex_semantics.specs.Rules.{rules_of}
use Rattle.lex_semantics.specs.Machine.{rules_of_machine}
use Rattle.lex_semantics.proofs.Cuts.{laws_of}
use Rattle.lex_semantics.proofs.MachineLaws.{machine_laws}
use Rattle.lex_semantics.proofs.demand.no_gap.Goals as goal

pub returns-clause-specification : goal.returns-clause-specification
returns-clause-specification c = λ S sound x p i j text fits le h. Reaches.no_gap (rules_of S) (laws_of S sound) x p i j text fits le h

pub returns-clause-machine : goal.returns-clause-machine
returns-clause-machine c = λ M laws x p i j text fits le h. Reaches.no_gap (rules_of_machine M) (machine_laws M laws) x p i j text fits le h
