use Rattle.lex_machine.proofs.GlanceExampled.{glance_examples}
use Rattle.lex_machine.proofs.laws.examples_of_glances.Goals as goal

pub returns : goal.returns
returns c = glance_examples
