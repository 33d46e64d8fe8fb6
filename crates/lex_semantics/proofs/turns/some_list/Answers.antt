use Rattle.lex_semantics.proofs.Exists.{candidates_exist}
use Rattle.lex_semantics.proofs.MachineRun.{machine_candidates_exist}
use Rattle.lex_semantics.proofs.turns.some_list.Goals as goal

pub returns-clause-specification : goal.returns-clause-specification
returns-clause-specification c = λ S sound d line_start y. (let r = candidates_exist S sound d line_start y in (r.0, r.2))

pub returns-clause-machine : goal.returns-clause-machine
returns-clause-machine c = λ M laws d line_start y. machine_candidates_exist M laws d line_start y
