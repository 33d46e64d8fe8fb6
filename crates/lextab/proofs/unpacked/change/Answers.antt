use Rattle.lextab.proofs.RowByRow.{none_or, none_xor}
use Rattle.lextab.proofs.unpacked.change.Goals as goal

pub returns-clause-before : goal.returns-clause-before
returns-clause-before c e = (none_or _ _ e).0

pub returns-clause-here : goal.returns-clause-here
returns-clause-here c e = none_xor _ _ (none_or _ _ e).1
