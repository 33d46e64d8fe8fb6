use Rattle.lex_semantics.proofs.Once as Once
use Rattle.lex_semantics.specs.Rules.{rules_of}
use Rattle.lex_semantics.specs.Machine.{rules_of_machine}
use Rattle.lex_semantics.proofs.turns.one_list.Goals as goal

pub returns-clause-specification : goal.returns-clause-specification
returns-clause-specification c = λ S c line_start y ms ns h k. Once.one_candidates (rules_of S) c line_start y ms ns h k

pub returns-clause-machine : goal.returns-clause-machine
returns-clause-machine c = λ M c line_start y ms ns h k. Once.one_candidates (rules_of_machine M) c line_start y ms ns h k
