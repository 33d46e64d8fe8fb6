use Rattle.std.proofs.Common.{refl}
use Rattle.lextab_file.proofs.laws.examples_of_files.Goals as goal

pub returns-clause-keywords : goal.returns-clause-keywords
returns-clause-keywords c = (refl, refl)

pub returns-clause-stack : goal.returns-clause-stack
returns-clause-stack c = refl
