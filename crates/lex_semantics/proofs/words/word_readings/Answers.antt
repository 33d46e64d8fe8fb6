use Rattle.lex_semantics.proofs.WordReadings as Words
use Rattle.lex_semantics.proofs.words.word_readings.Goals as goal

pub returns : goal.returns
returns c = λ t base w. Words.word_readings t base w
