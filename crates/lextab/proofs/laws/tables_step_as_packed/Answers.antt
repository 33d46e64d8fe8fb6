use Rattle.lextab.proofs.Columns.{steps_as_packed}
use Rattle.lextab.proofs.laws.tables_step_as_packed.Goals as goal

pub returns : goal.returns
returns c = steps_as_packed
