use Rattle.lextab.specs.Columns.{packing_in}
use Rattle.lextab.proofs.Tabled.{packing_of}
use Rattle.lextab.proofs.Bounds.{ranges_of}
use Rattle.lextab.proofs.laws.packing_has_ranges.Goals as goal

pub returns : goal.returns
returns c n go t x = ranges_of n go (packing_in t) (packing_of n go t x)
