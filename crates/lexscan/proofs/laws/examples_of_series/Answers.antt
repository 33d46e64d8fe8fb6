use Rattle.std.proofs.Common.{refl}
use Rattle.lexscan.proofs.laws.examples_of_series.Goals as goal

pub returns : goal.returns
returns c = record { several = refl; none = refl; end = refl; end_of_none = refl }
