use Rattle.lex_semantics.proofs.ComputedExamples as Example
use Rattle.lex_semantics.proofs.examples.examples_of_actions.Goals as goal

pub returns-clause-more_appends : goal.returns-clause-more_appends
returns-clause-more_appends c = Example.more_appends

pub returns-clause-less_returns : goal.returns-clause-less_returns
returns-clause-less_returns c = Example.less_returns

pub returns-clause-reject_goes_on : goal.returns-clause-reject_goes_on
returns-clause-reject_goes_on c = Example.reject_goes_on

pub returns-clause-less_counts_the_kept : goal.returns-clause-less_counts_the_kept
returns-clause-less_counts_the_kept c = Example.less_counts_the_kept

pub returns-clause-default_echoes_all : goal.returns-clause-default_echoes_all
returns-clause-default_echoes_all c = Example.default_echoes_all

pub returns-clause-kept_is_dropped : goal.returns-clause-kept_is_dropped
returns-clause-kept_is_dropped c = Example.kept_is_dropped

pub returns-clause-later_rule_as_long : goal.returns-clause-later_rule_as_long
returns-clause-later_rule_as_long c = Example.later_rule_as_long

pub returns-clause-one_by_one : goal.returns-clause-one_by_one
returns-clause-one_by_one c = Example.one_by_one

pub returns-clause-reject_keeps_more : goal.returns-clause-reject_keeps_more
returns-clause-reject_keeps_more c = Example.reject_keeps_more

pub returns-clause-echo_after_less : goal.returns-clause-echo_after_less
returns-clause-echo_after_less c = Example.echo_after_less

pub returns-clause-less_of_a_shorter_text : goal.returns-clause-less_of_a_shorter_text
returns-clause-less_of_a_shorter_text c = Example.less_of_a_shorter_text
