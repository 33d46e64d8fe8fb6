use Rattle.lexscan_window.proofs.MarkExampled.{mark_examples}
use Rattle.lexscan_window.proofs.laws.examples_of_marks.Goals as goal

pub returns : goal.returns
returns c = mark_examples
