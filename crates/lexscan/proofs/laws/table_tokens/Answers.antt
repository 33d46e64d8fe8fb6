use Rattle.lexscan.proofs.Tables as Tables
use Rattle.lexscan.proofs.laws.table_tokens.Goals as goal

pub returns : goal.returns
returns c M S laws sound table x us ending text k = Tables.table_tokens M S laws sound table x us ending text k
