use Rattle.lex_semantics.proofs.ExampleSameRules as Example
use Rattle.lex_semantics.proofs.examples.examples_of_same_rules.Goals as goal

pub returns-clause-written_in_two_ways : goal.returns-clause-written_in_two_ways
returns-clause-written_in_two_ways c = Example.written_in_two_ways

pub returns-clause-other_words : goal.returns-clause-other_words
returns-clause-other_words c = Example.other_words

pub returns-clause-other_statements : goal.returns-clause-other_statements
returns-clause-other_statements c = Example.other_statements

pub returns-clause-other_count : goal.returns-clause-other_count
returns-clause-other_count c = Example.other_count

pub returns-clause-other_end : goal.returns-clause-other_end
returns-clause-other_end c = Example.other_end

pub returns-clause-other_text : goal.returns-clause-other_text
returns-clause-other_text c = Example.other_text
