use Rattle.lexre.proofs.ReadingLaws.{uses}
use Rattle.lexre.proofs.laws.readings_use_own_positions.Goals as goal

pub returns : goal.returns
returns c = uses
