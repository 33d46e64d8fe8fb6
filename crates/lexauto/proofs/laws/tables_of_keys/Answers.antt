use Rattle.lexauto.proofs.Tables.{table_of}
use Rattle.lexauto.proofs.laws.tables_of_keys.Goals as goal

pub returns : goal.returns
returns c = λ S sound keys next starts line_starts s accepts goes accepted on. table_of S sound keys next starts line_starts s accepts goes accepted on
