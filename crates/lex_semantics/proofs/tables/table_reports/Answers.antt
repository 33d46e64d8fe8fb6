use Rattle.lex_semantics.proofs.TableReports.{useless_is, back_word_is}
use Rattle.lex_semantics.proofs.tables.table_reports.Goals as goal

pub returns-clause-useless : goal.returns-clause-useless
returns-clause-useless c = λ M S table i lt. useless_is M S table i lt

pub returns-clause-back_words : goal.returns-clause-back_words
returns-clause-back_words c = λ M S table d line_start w cond text. back_word_is M S table d line_start w cond text
