use Rattle.lexauto_positions.proofs.RuleMeaning.{rules_enter_is, rule_exits_is}
use Rattle.lexauto_positions.proofs.LetterTests.{rules_read_is}
use Rattle.lexauto_positions.proofs.laws.one_step_of_rules.Goals as goal

pub returns-clause-enters : goal.returns-clause-enters
returns-clause-enters c = λ S on rules q i base. rules_enter_is S on rules q i base

pub returns-clause-exits : goal.returns-clause-exits
returns-clause-exits c = λ S r base. rule_exits_is S r base

pub returns-clause-reads : goal.returns-clause-reads
returns-clause-reads c = λ b lt q rules i base. rules_read_is b lt q rules i base
