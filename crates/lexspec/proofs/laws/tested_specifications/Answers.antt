use Rattle.lexspec.proofs.TestLaws.{spec_is_sound}
use Rattle.lexspec.proofs.laws.tested_specifications.Goals as goal

pub returns : goal.returns
returns c = λ S h. spec_is_sound S h
