use Rattle.lex_semantics.proofs.States.{states_below}
use Rattle.lex_semantics.proofs.tables.states_below.Goals as goal

pub returns : goal.returns
returns c = λ M n stays d line_start w lt text. states_below M n stays d line_start w lt text
