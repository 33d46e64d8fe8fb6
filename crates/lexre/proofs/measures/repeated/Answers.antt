use Rattle.std.proofs.Common.{◌∙◌, sym, arith}
use Rattle.lexre.proofs.LengthLaws.{capped_scaled}
use Rattle.lexre.proofs.measures.repeated.Goals as goal

pub returns : goal.returns
returns c = λ x e. rw c.in-Some.is (capped_scaled c.in-Some.times c.in_ok-most.most c.min.result x (sym c.in_ok-most.was ∙ e) (grind arith))
