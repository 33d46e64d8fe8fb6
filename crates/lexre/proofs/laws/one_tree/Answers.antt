use Rattle.std.proofs.Common.{refl}
use Rattle.std.specs.FinMap.{get}
use Rattle.lexre_bytes.specs.Lexical.{symbol_at}
use Rattle.lexre.proofs.OneTree.{one_tree}
use Rattle.lexre.proofs.laws.one_tree.Goals as goal

pub returns : goal.returns
unfolding symbol_at
returns c = λ how definitions text t u h k. one_tree how.posix (symbol_at how.fold) (get definitions) refl 64 text t u h.0 k.0
