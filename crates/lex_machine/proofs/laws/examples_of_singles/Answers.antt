use Rattle.lex_machine.proofs.SingleExampled.{single_examples}
use Rattle.lex_machine.proofs.laws.examples_of_singles.Goals as goal

pub returns : goal.returns
returns c = single_examples
