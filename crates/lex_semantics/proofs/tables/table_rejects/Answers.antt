use Rattle.lex_semantics.proofs.States.{table_rejects}
use Rattle.lex_semantics.proofs.tables.table_rejects.Goals as goal

pub returns : goal.returns
returns c = λ M S table. table_rejects M S table
