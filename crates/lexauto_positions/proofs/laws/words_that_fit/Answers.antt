use Rattle.lexauto_positions.proofs.Meaning.{active_fit}
use Rattle.lexauto_positions.proofs.laws.words_that_fit.Goals as goal

pub returns : goal.returns
returns c = λ S c line_start w. active_fit S c line_start w
