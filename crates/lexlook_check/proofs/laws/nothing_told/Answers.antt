use Rattle.lexlook_check.proofs.Well.{nothing_told_of}
use Rattle.lexlook_check.proofs.laws.nothing_told.Goals as goal

pub returns : goal.returns
returns c = nothing_told_of c.one_specification.ensures
