use Rattle.lexscan.proofs.BeginExampled.{begin_examples}
use Rattle.lexscan.proofs.laws.examples_of_begins.Goals as goal

pub returns : goal.returns
returns c = begin_examples
