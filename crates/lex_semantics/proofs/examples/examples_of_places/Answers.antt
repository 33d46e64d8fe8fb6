use Rattle.lex_semantics.proofs.ComputedExamples as Example
use Rattle.lex_semantics.proofs.examples.examples_of_places.Goals as goal

pub returns-clause-lines_trimmed : goal.returns-clause-lines_trimmed
returns-clause-lines_trimmed c = Example.lines_trimmed

pub returns-clause-context_returned : goal.returns-clause-context_returned
returns-clause-context_returned c = Example.context_returned

pub returns-clause-line_starts : goal.returns-clause-line_starts
returns-clause-line_starts c = Example.line_starts

pub returns-clause-open_comment : goal.returns-clause-open_comment
returns-clause-open_comment c = Example.open_comment

pub returns-clause-exclusive : goal.returns-clause-exclusive
returns-clause-exclusive c = Example.exclusive

pub returns-clause-inclusive : goal.returns-clause-inclusive
returns-clause-inclusive c = Example.inclusive

pub returns-clause-line_of_the_match : goal.returns-clause-line_of_the_match
returns-clause-line_of_the_match c = Example.line_of_the_match

pub returns-clause-reject_keeps_begin : goal.returns-clause-reject_keeps_begin
returns-clause-reject_keeps_begin c = Example.reject_keeps_begin
