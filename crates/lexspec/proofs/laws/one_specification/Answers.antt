use Rattle.std.proofs.Common.{refl}
use Rattle.std.specs.FinMap.{get}
use Rattle.lexre_bytes.specs.Lexical.{symbol_at}
use Rattle.lexre.proofs.CuttingLaws.{one_cutting}
use Rattle.lexre.proofs.OneTree.{one_tree}
use Rattle.lexspec.proofs.OneSpec.{one_specification}
use Rattle.lexspec.proofs.laws.one_specification.Goals as goal

pub returns : goal.returns
unfolding symbol_at
returns c = one_specification
    (λ how definitions text t u h k. one_tree how.posix (symbol_at how.fold) (get definitions) refl 64 text t u h.0 k.0)
    (λ t stop stop' at at' two two' special special' h k. let same = one_cutting t stop stop' at at' two two' special special' h k in (same.0, same.1, same.3))
