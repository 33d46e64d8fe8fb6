use Rattle.lextab.specs.Columns.{packing_in}
use Rattle.lextab.proofs.Tabled.{packing_of}
use Rattle.lextab.proofs.Unique.{one_packing_is}
use Rattle.lextab.proofs.laws.one_packing.Goals as goal

pub returns : goal.returns
returns c n go t u x y = one_packing_is n go (packing_in t) (packing_in u) (packing_of n go t x) (packing_of n go u y)
