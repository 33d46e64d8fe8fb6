use Rattle.std.proofs.Common.{◌≡◌, ℕ, None, get_or, inl, inr, sym, subst, arith}
use Rattle.std.proofs.lemmas.Bool.{cases_lt}
use Rattle.lex_semantics.specs.Machine.{Machine}
use Rattle.lexlook_tables.specs.Lines.{EndsAt}
use Rattle.lexlook_tables.specs.Obstacles.{FirstOf, HindersAt}
use Rattle.lexlook_tables.proofs.Firsts.{along_some, along_none}
use Rattle.lexlook_tables.proofs.Searches.{among_at, place_of}
use Rattle.lexlook_tables.proofs.lines.cutting.obstacle_among.Goals as goal

pub obstacle_at-requires-clause-state : goal.obstacle_at-requires-clause-state
obstacle_at-requires-clause-state g c = c.requires.found (get_or c.args.found.now c.loop-state.state-index 0) (among_at c.args.found.now c.loop-state.state-index (omega (arith, c.loop-state-test.true)))

pub returns-in-Some-clause-first : goal.returns-in-Some-clause-first
returns-in-Some-clause-first g c = along_some (HindersAt (g.M.Machine.machine c.args.machine.now) c.args.condition) c.args.found.now c.loop-state.state-index c.in-Some.obstacle (omega (arith, c.loop-state-test.true)) c.loop-state.invariant.none
    (subst (FirstOf (HindersAt (g.M.Machine.machine c.args.machine.now) c.args.condition (get_or c.args.found.now c.loop-state.state-index 0))) c.in-Some.is c.in_ok-obstacle.ensures.first)

pub loop-state-preserved : goal.loop-state-preserved
loop-state-preserved g c = record {
  none = λ p lt. elim (cases_lt p k) [
    | inl less ↦ c.loop-state.invariant.none p less
    | inr more ↦ (let is : p ≡ k = omega (arith, lt, more) in
        subst (λ z. FirstOf (HindersAt M c.args.condition (get_or c.args.found.now z 0)) None) (sym is)
        (subst (FirstOf (HindersAt M c.args.condition (get_or c.args.found.now k 0))) c.in_default.is c.in_ok-obstacle.ensures.first))
  ];
  ends = λ p lt. elim (cases_lt p k) [
    | inl less ↦ c.loop-state.invariant.ends p less
    | inr more ↦ (let is : p ≡ k = omega (arith, lt, more) in subst (λ z. EndsAt M c.args.condition (M.next (get_or c.args.found.now z 0) 10)) (sym is) (c.in_ok-obstacle.ensures.ends c.in_default.is))
  ];
  known = c.in_ok-obstacle.ensures.known c.in_default.is;
}
  where
    M : Machine
    M = g.M.Machine.machine c.args.machine.now

    k : ℕ
    k = c.loop-state.state-index

pub returns-clause-first : goal.returns-clause-first
returns-clause-first g c = along_none (HindersAt (g.M.Machine.machine c.args.machine.now) c.args.condition) c.args.found.now (λ p lt. c.loop-state.invariant.none p (omega (arith, lt, c.loop-state-test.false)))

pub returns-clause-ends : goal.returns-clause-ends
returns-clause-ends g c = λ _ s at. (let p = place_of c.args.found.now s at in
    subst (λ z. EndsAt M c.args.condition (M.next z 10)) p.2 (c.loop-state.invariant.ends p.0 (let lt = p.1 in omega (arith, lt, c.loop-state-test.false))))
  where
    M : Machine
    M = g.M.Machine.machine c.args.machine.now
