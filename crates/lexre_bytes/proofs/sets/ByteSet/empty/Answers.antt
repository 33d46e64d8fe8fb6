use Rattle.lexre_bytes.proofs.SetLaws.{empty_is}
use Rattle.lexre_bytes.proofs.sets.ByteSet.empty.Goals as goal

pub returns : goal.returns
returns c = empty_is
