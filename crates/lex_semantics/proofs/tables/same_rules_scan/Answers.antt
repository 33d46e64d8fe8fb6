use Rattle.lex_semantics.proofs.SameRules.{same_over}
use Rattle.lex_semantics.proofs.tables.same_rules_scan.Goals as goal

pub returns : goal.returns
returns c = λ S T sound sound' same x text. same_over S T sound sound' same x text
