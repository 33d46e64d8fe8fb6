use Rattle.lexauto.proofs.Counting.{counts_agree}
use Rattle.lexauto.proofs.laws.one_count.Goals as goal

pub returns : goal.returns
returns c = λ S m n s t. counts_agree S m n s t
