use Rattle.lexspec.proofs.TestLaws.{tree_is_sound, sound_is_tested}
use Rattle.lexspec.proofs.laws.tested_trees.Goals as goal

pub returns : goal.returns
returns c = λ t. (λ h. tree_is_sound t h, λ h. sound_is_tested t h)
