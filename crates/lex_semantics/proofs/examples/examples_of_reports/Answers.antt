use Rattle.lex_semantics.proofs.ExampleReports as Example
use Rattle.lex_semantics.proofs.examples.examples_of_reports.Goals as goal

pub returns-clause-later_rule : goal.returns-clause-later_rule
returns-clause-later_rule c = Example.later_rule

pub returns-clause-first_rule : goal.returns-clause-first_rule
returns-clause-first_rule c = Example.first_rule

pub returns-clause-no_rule : goal.returns-clause-no_rule
returns-clause-no_rule c = Example.no_rule

pub returns-clause-later_with_reject : goal.returns-clause-later_with_reject
returns-clause-later_with_reject c = Example.later_with_reject

pub returns-clause-never_fits : goal.returns-clause-never_fits
returns-clause-never_fits c = Example.never_fits

pub returns-clause-longer_fits : goal.returns-clause-longer_fits
returns-clause-longer_fits c = Example.longer_fits

pub returns-clause-one_byte : goal.returns-clause-one_byte
returns-clause-one_byte c = Example.one_byte

pub returns-clause-whole_word : goal.returns-clause-whole_word
returns-clause-whole_word c = Example.whole_word

pub returns-clause-dead_word : goal.returns-clause-dead_word
returns-clause-dead_word c = Example.dead_word

pub returns-clause-fits_itself : goal.returns-clause-fits_itself
returns-clause-fits_itself c = Example.fits_itself

pub returns-clause-no_condition : goal.returns-clause-no_condition
returns-clause-no_condition c = Example.no_condition
