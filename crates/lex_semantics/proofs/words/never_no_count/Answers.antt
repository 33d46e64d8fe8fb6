use Rattle.lex_semantics.proofs.Counted as Counted
use Rattle.lex_semantics.proofs.words.never_no_count.Goals as goal

pub returns : goal.returns
returns c = λ S none. Counted.never_no_count S none
