use Rattle.lex_machine.proofs.QuietExampled.{quiet_examples}
use Rattle.lex_machine.proofs.laws.examples_of_quiet.Goals as goal

pub returns : goal.returns
returns c = quiet_examples
