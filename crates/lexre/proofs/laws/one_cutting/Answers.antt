use Rattle.lexre.proofs.CuttingLaws.{one_cutting}
use Rattle.lexre.proofs.laws.one_cutting.Goals as goal

pub returns : goal.returns
returns c = one_cutting
