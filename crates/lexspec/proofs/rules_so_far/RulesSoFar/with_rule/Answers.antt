use Rattle.lexspec.specs.ItemReads.{SomeWait}
use Rattle.lexspec.proofs.BarLaws.{no_bar_at_all}
use Rattle.lexspec.proofs.rules_so_far.RulesSoFar.with_rule.Goals as goal

pub returns-in-Matching-clause-none : goal.returns-in-Matching-clause-none
returns-in-Matching-clause-none c = rw c.in-Matching.is c.with_matching.ensures.none

pub returns-in-AtEnd-clause-none : goal.returns-in-AtEnd-clause-none
returns-in-AtEnd-clause-none c = rw c.in-AtEnd.is c.with_end.ensures.none

pub returns-in-Matching-clause-bar : goal.returns-in-Matching-clause-bar
returns-in-Matching-clause-bar c = no_bar_at_all c.with_matching.result (SomeWait c.args.self) c.with_matching.ensures.no_bar
