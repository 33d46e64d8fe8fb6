use Rattle.lex_semantics.proofs.ComputedExamples as Example
use Rattle.lex_semantics.proofs.examples.examples_of_matching.Goals as goal

pub returns-clause-nothing_echoes : goal.returns-clause-nothing_echoes
returns-clause-nothing_echoes c = Example.nothing_echoes

pub returns-clause-nothing_of_nothing : goal.returns-clause-nothing_of_nothing
returns-clause-nothing_of_nothing c = Example.nothing_of_nothing

pub returns-clause-keys_written : goal.returns-clause-keys_written
returns-clause-keys_written c = Example.keys_written

pub returns-clause-keyword_first : goal.returns-clause-keyword_first
returns-clause-keyword_first c = Example.keyword_first

pub returns-clause-backs_up : goal.returns-clause-backs_up
returns-clause-backs_up c = Example.backs_up

pub returns-clause-interval_on_item : goal.returns-clause-interval_on_item
returns-clause-interval_on_item c = Example.interval_on_item

pub returns-clause-folded_before_negated : goal.returns-clause-folded_before_negated
returns-clause-folded_before_negated c = Example.folded_before_negated

pub returns-clause-ordinary_dollar : goal.returns-clause-ordinary_dollar
returns-clause-ordinary_dollar c = Example.ordinary_dollar

pub returns-clause-context_counts : goal.returns-clause-context_counts
returns-clause-context_counts c = Example.context_counts
