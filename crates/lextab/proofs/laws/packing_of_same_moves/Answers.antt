use Rattle.lextab.specs.Columns.{packing_in}
use Rattle.lextab.proofs.Tabled.{packing_of, packed_of}
use Rattle.lextab.proofs.Lifted.{packed_to}
use Rattle.lextab.proofs.laws.packing_of_same_moves.Goals as goal

pub returns : goal.returns
returns c n go ho t same x = packed_of n ho t (packed_to n go ho (packing_in t) same (packing_of n go t x))
