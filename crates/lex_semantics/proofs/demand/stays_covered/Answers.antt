use Rattle.lex_semantics.proofs.After.{turns_of}
use Rattle.lex_semantics.proofs.Covers.{turns_cover}
use Rattle.lex_semantics.specs.Rules.{rules_of}
use Rattle.lex_semantics.specs.Machine.{rules_of_machine}
use Rattle.lex_semantics.proofs.Cuts.{laws_of}
use Rattle.lex_semantics.proofs.MachineLaws.{machine_laws}
use Rattle.lex_semantics.proofs.demand.stays_covered.Goals as goal

pub returns-clause-specification : goal.returns-clause-specification
returns-clause-specification c = λ S sound x n s asked text h. (turns_of (rules_of S) x n s asked h, turns_cover (rules_of S) (laws_of S sound) x n s asked text h)

pub returns-clause-machine : goal.returns-clause-machine
returns-clause-machine c = λ M laws x n s asked text h. (turns_of (rules_of_machine M) x n s asked h, turns_cover (rules_of_machine M) (machine_laws M laws) x n s asked text h)
