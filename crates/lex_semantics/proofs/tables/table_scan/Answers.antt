use Rattle.lex_semantics.proofs.Both.{same_over}
use Rattle.lex_semantics.proofs.tables.table_scan.Goals as goal

pub returns : goal.returns
returns c = λ M S laws sound table x text. same_over M laws S sound table x text
