use Rattle.lex_semantics.proofs.ComputedExamples as Example
use Rattle.lex_semantics.proofs.examples.examples_of_ends.Goals as goal

pub returns-clause-exits : goal.returns-clause-exits
returns-clause-exits c = Example.exits

pub returns-clause-exits_after_more : goal.returns-clause-exits_after_more
returns-clause-exits_after_more c = Example.exits_after_more

pub returns-clause-end_rule : goal.returns-clause-end_rule
returns-clause-end_rule c = Example.end_rule

pub returns-clause-end_rule_alone : goal.returns-clause-end_rule_alone
returns-clause-end_rule_alone c = Example.end_rule_alone
