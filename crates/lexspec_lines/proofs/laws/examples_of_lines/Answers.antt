use Rattle.lexspec_lines.proofs.ComputedLines as Line
use Rattle.lexspec_lines.proofs.laws.examples_of_lines.Goals as goal

pub returns-clause-returns : goal.returns-clause-returns
returns-clause-returns c = Line.returns_dropped

pub returns-clause-blanks : goal.returns-clause-blanks
returns-clause-blanks c = Line.blanks_trimmed

pub returns-clause-dollars : goal.returns-clause-dollars
returns-clause-dollars c = Line.dollar_anchors

pub returns-clause-declared : goal.returns-clause-declared
returns-clause-declared c = Line.conditions_declared

pub returns-clause-defined : goal.returns-clause-defined
returns-clause-defined c = Line.name_defined

pub returns-clause-refused : goal.returns-clause-refused
returns-clause-refused c = Line.no_definitions

pub returns-clause-block : goal.returns-clause-block
returns-clause-block c = Line.block_skipped

pub returns-clause-ignored : goal.returns-clause-ignored
returns-clause-ignored c = Line.lines_ignored
