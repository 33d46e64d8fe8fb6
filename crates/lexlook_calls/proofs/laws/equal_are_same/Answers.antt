use Rattle.lexlook_calls.proofs.SameFiles.{equal_are_same}
use Rattle.lexlook_calls.proofs.laws.equal_are_same.Goals as goal

pub returns : goal.returns
returns c = equal_are_same c.one_table.ensures
