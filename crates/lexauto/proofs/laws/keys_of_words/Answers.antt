use Rattle.lexauto.proofs.WordKeys.{word_key}
use Rattle.lexauto.proofs.laws.keys_of_words.Goals as goal

pub returns : goal.returns
returns c = λ S sound co line_start b w lt text. word_key S co line_start sound b w lt text
