use Rattle.std.proofs.lemmas.Grind.{common_steps}
use Rattle.std.proofs.Common.{◌≡◌, ℕ, ◌+◌, ◌-◌, ◌≤◌, ◌<◌, List, [], ◌∷◌, ◌++◌, length, drop, get_or, inl, true, refl, sym, ap, subst, ◌∙◌, append-nil, arith}
use Rattle.lex_semantics.specs.Machine.{Machine}
use Rattle.lexscan_window.specs.declared.state.TextPlace.{TextPlace}
use Rattle.lexscan_window.specs.Reads.{Took}
use Rattle.lexscan_matching.specs.Looks.{SoFar, Looked}
use Rattle.lexscan_matching.specs.Picks.{path_of, state_at}
use Rattle.lexscan_matching.proofs.Growing as Grow
use Rattle.lexscan_matching.proofs.Limiting.{answered, not_looked}
use Rattle.lexscan_matching.proofs.last_states.look_ahead_last.Goals as goal

pub returns-then-not-goes_on : goal.returns-then-not-goes_on
returns-then-not-goes_on g c = record {
  same = grind (arith, common_steps);
  same_sink = grind (arith, common_steps);
  put = grind (arith, common_steps);
  took = took;
  looked = looked;
  tells = record {
    some = omega arith;
    inside = omega (arith, inside);
    state_is = so_far_next.state_is;
    before_is = before_is (omega arith);
    known = c.step-state.ensures.known;
    known_before = c.held.invariant.state_known;
  };
  unmet = grind (arith, common_steps);
  source = grind (arith, common_steps);
  too_many = grind (arith, common_steps);
  limit = answered M ⊥ p g.S.Source.gave _ _ _ _ took _ (not_looked M p g.S.Source.gave _ _ _ _ took _ looked);
}
  where
    M : Machine
    M = g.M.Machine.machine c.args.machine.now

    p : TextPlace
    p = c.args.place

    w : List ℕ
    w = c.args.reading.now.window.bytes

    n : ℕ
    n = c.held.reach

    inside : p.at + n < length w
    inside = omega (arith, c.held-test.true, c.len-held.ensures, c.requires.inside)

    so_far : SoFar M p (drop p.at w) n c.held.state (path_of M p w n)
    so_far = c.held.invariant.so_far

    goes_on : 1 ≤ n → M.goes_on c.held.state ≡ true
    goes_on = c.held.invariant.goes_on

    stepped : c.step-state.result ≡ M.next c.held.state (get_or w (p.at + n) 0)
    stepped = c.step-state.ensures.state ∙ ap (M.next c.held.state) c.byte.ensures.value

    next : SoFar M p (drop p.at w) (n + 1) c.step-state.result (path_of M p w n ++ c.step-state.result ∷ [])
    next = Grow.step_more M p w w [] n c.held.state c.step-state.result (path_of M p w n) (path_of M p w n ++ c.step-state.result ∷ []) c.requires.inside (sym (append-nil w)) inside so_far goes_on stepped refl

    so_far_next : SoFar M p (drop p.at w) (n + 1) c.step-state.result (path_of M p w (n + 1))
    so_far_next = subst (λ t. SoFar M p (drop p.at w) (n + 1) c.step-state.result t) next.path_is next

    before_is : 1 ≤ n + 1 → c.held.state ≡ state_at M p w (n + 1 - 1)
    before_is = λ some. so_far.state_is ∙ ap (λ k. state_at M p w k) (omega arith)

    took : Took g.S.Source.gave c.args.intake.now.source.now c.args.intake.now.source.now c.args.reading.now c.args.reading.now
    took = Grow.took_none g.S.Source.gave _ _ (g.met.S.Source.gave_none _)

    looked : Looked M p c.args.reading.now c.args.reading.now (path_of M p w (n + 1))
    looked = record {
      reach = n + 1;
      some = omega arith;
      state = c.step-state.result;
      so_far = so_far_next;
      size = omega (arith, inside);
      stops = inl (sym c.goes_on.ensures ∙ c.if-not-goes_on.true, refl);
    }

pub held-preserved : goal.held-preserved
held-preserved g c = record {
  inside = omega (arith, inside);
  same = refl;
  so_far = so_far_next;
  goes_on = λ some. sym c.goes_on.ensures ∙ c.if-not-goes_on.false;
  before_is = before_is;
  state_known = c.step-state.ensures.known;
  before_known = c.held.invariant.state_known;
}
  where
    M : Machine
    M = g.M.Machine.machine c.args.machine.now

    p : TextPlace
    p = c.args.place

    w : List ℕ
    w = c.args.reading.now.window.bytes

    n : ℕ
    n = c.held.reach

    inside : p.at + n < length w
    inside = omega (arith, c.held-test.true, c.len-held.ensures, c.requires.inside)

    so_far : SoFar M p (drop p.at w) n c.held.state (path_of M p w n)
    so_far = c.held.invariant.so_far

    goes_on : 1 ≤ n → M.goes_on c.held.state ≡ true
    goes_on = c.held.invariant.goes_on

    stepped : c.step-state.result ≡ M.next c.held.state (get_or w (p.at + n) 0)
    stepped = c.step-state.ensures.state ∙ ap (M.next c.held.state) c.byte.ensures.value

    next : SoFar M p (drop p.at w) (n + 1) c.step-state.result (path_of M p w n ++ c.step-state.result ∷ [])
    next = Grow.step_more M p w w [] n c.held.state c.step-state.result (path_of M p w n) (path_of M p w n ++ c.step-state.result ∷ []) c.requires.inside (sym (append-nil w)) inside so_far goes_on stepped refl

    so_far_next : SoFar M p (drop p.at w) (n + 1) c.step-state.result (path_of M p w (n + 1))
    so_far_next = subst (λ t. SoFar M p (drop p.at w) (n + 1) c.step-state.result t) next.path_is next

    before_is : 1 ≤ n + 1 → c.held.state ≡ state_at M p w (n + 1 - 1)
    before_is = λ some. so_far.state_is ∙ ap (λ k. state_at M p w k) (omega arith)
