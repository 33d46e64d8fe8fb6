use Rattle.std.proofs.Common.{◌≡◌, inl, inr, None, sym, subst, arith}
use Rattle.std.proofs.lemmas.Bool.{cases_lt}
use Rattle.lex_semantics.specs.Machine.{Machine}
use Rattle.lexlook_tables.specs.Lines.{LinesEnd}
use Rattle.lexlook_tables.specs.Obstacles.{FirstOf, UnsteadyRule, HindersIn}
use Rattle.lexlook_tables.proofs.Apart.{scans_apart}
use Rattle.lexlook_tables.proofs.Standing.{all_steady, rule_first, condition_first, end_first, nothing}
use Rattle.lexlook_tables.proofs.lines.cutting.find_obstacle.Goals as goal

pub loop-condition-preserved : goal.loop-condition-preserved
loop-condition-preserved g c = record {
  lines = λ d lt. elim (cases_lt d c.loop-condition.condition) [
    | inl less ↦ c.loop-condition.invariant.lines d less
    | inr more ↦ (let is : d ≡ c.loop-condition.condition = omega (arith, lt, more) in subst (LinesEnd M) (sym is) (c.in_ok-obstacle.ensures.none c.in_default-2.is))
  ];
  none = λ d lt. elim (cases_lt d c.loop-condition.condition) [
    | inl less ↦ c.loop-condition.invariant.none d less
    | inr more ↦ (let is : d ≡ c.loop-condition.condition = omega (arith, lt, more) in
        subst (λ z. FirstOf (HindersIn M z) None) (sym is) (subst (FirstOf (HindersIn M c.loop-condition.condition)) c.in_default-2.is c.in_ok-obstacle.ensures.first))
  ];
}
  where
    M : Machine
    M = g.M.Machine.machine c.args.machine.now

pub returns-in-Some-clause-first : goal.returns-in-Some-clause-first
returns-in-Some-clause-first g c = rule_first (g.M.Machine.machine c.args.machine.now) c.in-Some.rule (subst (FirstOf (UnsteadyRule (g.M.Machine.machine c.args.machine.now))) c.in-Some.is c.unsteady_rule.ensures)

pub returns-in-Some-2-clause-first : goal.returns-in-Some-2-clause-first
returns-in-Some-2-clause-first g c = condition_first M (subst (FirstOf (UnsteadyRule M)) c.in_default.is c.unsteady_rule.ensures) c.loop-condition.condition c.in-Some-2.obstacle (omega (arith, c.loop-condition-test.true, c.requires.conditions)) c.loop-condition.invariant.none
    (subst (FirstOf (HindersIn M c.loop-condition.condition)) c.in-Some-2.is c.in_ok-obstacle.ensures.first)
  where
    M : Machine
    M = g.M.Machine.machine c.args.machine.now

pub returns-then-writes_at_end-clause-first : goal.returns-then-writes_at_end-clause-first
returns-then-writes_at_end-clause-first g c = end_first M (subst (FirstOf (UnsteadyRule M)) c.in_default.is c.unsteady_rule.ensures) (λ d lt. c.loop-condition.invariant.none d (omega (arith, lt, c.loop-condition-test.false, c.requires.conditions))) (c.writes_at_end.ensures.yes c.if-writes_at_end.true)
  where
    M : Machine
    M = g.M.Machine.machine c.args.machine.now

pub returns-clause-none : goal.returns-clause-none
returns-clause-none g c = λ _. scans_apart M (g.M.Machine.laws c.args.machine.now) (record {
  steady = all_steady M (subst (FirstOf (UnsteadyRule M)) c.in_default.is c.unsteady_rule.ensures);
  lines = λ d lt. c.loop-condition.invariant.lines d (omega (arith, lt, c.loop-condition-test.false, c.requires.conditions));
  silent = c.writes_at_end.ensures.no c.if-writes_at_end.false;
})
  where
    M : Machine
    M = g.M.Machine.machine c.args.machine.now

pub returns-clause-first : goal.returns-clause-first
returns-clause-first g c = nothing M (subst (FirstOf (UnsteadyRule M)) c.in_default.is c.unsteady_rule.ensures) (λ d lt. c.loop-condition.invariant.none d (omega (arith, lt, c.loop-condition-test.false, c.requires.conditions))) (c.writes_at_end.ensures.no c.if-writes_at_end.false)
  where
    M : Machine
    M = g.M.Machine.machine c.args.machine.now
