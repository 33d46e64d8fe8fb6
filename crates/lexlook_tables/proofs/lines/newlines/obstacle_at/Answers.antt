use Rattle.std.proofs.Common.{None, Some, subst}
use Rattle.lex_semantics.specs.Machine.{Machine}
use Rattle.lexlook_tables.specs.Lines.{EndsAt}
use Rattle.lexlook_tables.specs.Obstacles.{FirstOf, CrossingRule, StrayingRule}
use Rattle.lexlook_tables.proofs.Standing.{crosses, strays, line_ends}
use Rattle.lexlook_tables.proofs.lines.newlines.obstacle_at.Goals as goal

pub returns-in-Some-clause-first : goal.returns-in-Some-clause-first
returns-in-Some-clause-first g c = crosses M c.args.condition c.args.state c.in-Some.rule
    (subst (λ s. FirstOf (CrossingRule M c.args.condition s) (Some c.in-Some.rule)) c.step-next.ensures.state (subst (FirstOf (CrossingRule M c.args.condition c.step-next.result)) c.in-Some.is c.in_ok-rule.ensures.rule))
  where
    M : Machine
    M = g.M.Machine.machine c.args.machine.now

pub returns-in-Some-straying_rule-clause-first : goal.returns-in-Some-straying_rule-clause-first
returns-in-Some-straying_rule-clause-first g c = strays M c.args.condition c.args.state c.in-Some-straying_rule.rule none
    (subst (λ s. FirstOf (StrayingRule M c.args.condition s) (Some c.in-Some-straying_rule.rule)) c.step-next.ensures.state (subst (FirstOf (StrayingRule M c.args.condition c.step-next.result)) c.in-Some-straying_rule.is c.straying_rule.ensures))
  where
    M : Machine
    M = g.M.Machine.machine c.args.machine.now

    none : FirstOf (CrossingRule M c.args.condition (M.next c.args.state 10)) None
    none = subst (λ s. FirstOf (CrossingRule M c.args.condition s) None) c.step-next.ensures.state (subst (FirstOf (CrossingRule M c.args.condition c.step-next.result)) c.in_default.is c.in_ok-rule.ensures.rule)

pub returns-in-None-clause-first : goal.returns-in-None-clause-first
returns-in-None-clause-first g c = line_ends M c.args.condition c.args.state none
    (subst (λ s. FirstOf (StrayingRule M c.args.condition s) None) c.step-next.ensures.state (subst (FirstOf (StrayingRule M c.args.condition c.step-next.result)) c.in-None.is c.straying_rule.ensures))
  where
    M : Machine
    M = g.M.Machine.machine c.args.machine.now

    none : FirstOf (CrossingRule M c.args.condition (M.next c.args.state 10)) None
    none = subst (λ s. FirstOf (CrossingRule M c.args.condition s) None) c.step-next.ensures.state (subst (FirstOf (CrossingRule M c.args.condition c.step-next.result)) c.in_default.is c.in_ok-rule.ensures.rule)

pub returns-in-None-clause-ends : goal.returns-in-None-clause-ends
returns-in-None-clause-ends g c = λ _. subst (EndsAt (g.M.Machine.machine c.args.machine.now) c.args.condition) c.step-next.ensures.state (c.in_ok-rule.ensures.ends c.in_default.is)

pub returns-in-None-clause-known : goal.returns-in-None-clause-known
returns-in-None-clause-known g c = λ _. c.in_ok-rule.ensures.known c.in_default.is
