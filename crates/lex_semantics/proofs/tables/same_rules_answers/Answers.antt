use Rattle.lex_semantics.proofs.SameRules.{same_answers}
use Rattle.lex_semantics.proofs.tables.same_rules_answers.Goals as goal

pub returns : goal.returns
returns c = λ S T same. same_answers S T same
