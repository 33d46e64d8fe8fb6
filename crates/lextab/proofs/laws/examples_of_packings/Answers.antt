use Rattle.lextab.proofs.ComputedPacking.{twice_a_packed}
use Rattle.lextab.proofs.laws.examples_of_packings.Goals as goal

pub returns : goal.returns
returns c = twice_a_packed
