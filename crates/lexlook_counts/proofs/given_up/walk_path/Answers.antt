use Rattle.std.proofs.Common.{◌≡◌, ◌∙◌, ℕ, ◌+◌, ◌<◌, ◌≤◌, ◌⊎◌, true, false, [], ◌∷◌, ◌++◌, List, ap, arith, get_or, inl, inr, length, subst, sym, take}
use Rattle.std.proofs.lemmas.List.{length-take-le, take_more}
use Rattle.lex_semantics.specs.Machine.{Machine, walk}
use Rattle.lex_semantics.specs.Text.{Among}
use Rattle.lex_semantics.specs.Trail.{trail_from}
use Rattle.lex_semantics.proofs.Fronts.{among_append}
use Rattle.lex_semantics.proofs.MachineLaws.{walk-append}
use Rattle.lexscan_matching.proofs.Growing.{path_length, path_snoc}
use Rattle.lexlook_counts.specs.Descending.{IsPath}
use Rattle.lexlook_counts.proofs.given_up.walk_path.Goals as goal

-- a state more is below a number, as the others are
one_below : (n : ℕ) (path : List ℕ) (s : ℕ) (next : List ℕ) → next ≡ path ++ s ∷ [] → ((t : ℕ) → Among path t → t < n) → s < n → (t : ℕ) → Among next t → t < n
one_below n path s next is before low t at = from (among_append path (s ∷ []) t (subst (λ (l : List ℕ). Among l t) is at))
  where
    from : Among path t ⊎ Among (s ∷ []) t → t < n
    from (inl old) = before t old
    from (inr (inl same)) = subst (λ (k : ℕ). k < n) (sym same) low
    from (inr (inr none)) = absurd none

module _ (M : Machine) (s0 : ℕ) (w : List ℕ) (k : ℕ) (low : k < length w) where
  -- the state after one byte more
  pub state_one : (s t : ℕ) → s ≡ walk M s0 (take k w) → t ≡ M.next s (get_or w k 0) → t ≡ walk M s0 (take (k + 1) w)
  state_one s t was is = is ∙ ap (λ (q : ℕ). M.next q (get_or w k 0)) was ∙ sym (walk-append M s0 (take k w) (get_or w k 0 ∷ [])) ∙ ap (walk M s0) (sym (take_more w k 0 low))

  pub path_one : (s t : ℕ) (path next : List ℕ) → s ≡ walk M s0 (take k w) → t ≡ M.next s (get_or w k 0) → path ≡ trail_from M s0 (take k w) → next ≡ path ++ t ∷ [] → next ≡ trail_from M s0 (take (k + 1) w)
  path_one s t path next was is e more =
      more ∙ ap (λ (l : List ℕ). l ++ t ∷ []) e ∙ ap (λ (q : ℕ). trail_from M s0 (take k w) ++ q ∷ []) (is ∙ ap (λ (q : ℕ). M.next q (get_or w k 0)) was) ∙ sym (path_snoc M s0 (get_or w k 0) (take k w)) ∙ ap (trail_from M s0) (sym (take_more w k 0 low))

-- how long a path is
long : (M : Machine) (s0 : ℕ) (w path : List ℕ) (k : ℕ) → k ≤ length w → path ≡ trail_from M s0 (take k w) → length path ≡ k
long M s0 w path k le e = ap length e ∙ path_length M s0 (take k w) ∙ length-take-le k w le

-- it stops after this byte, or these are all bytes
path_stops : (M : Machine) (s0 : ℕ) (w : List ℕ) (k : ℕ) → k < length w → (t : ℕ) (path : List ℕ) → t ≡ walk M s0 (take (k + 1) w) → path ≡ trail_from M s0 (take (k + 1) w) → M.goes_on t ≡ false → IsPath M s0 w path true
path_stops M s0 w k low t path state is stops =
    let size : length path ≡ k + 1 = long M s0 w path (k + 1) (omega (arith, low)) is in
    record {
      inside = omega (arith, size, low);
      states = is ∙ ap (λ (n : ℕ). trail_from M s0 (take n w)) (sym size);
      stops = λ e. (omega (arith, size), ap (λ (n : ℕ). M.goes_on (walk M s0 (take n w))) size ∙ ap M.goes_on (sym state) ∙ stops);
      all = λ e. cc;
    }

path_ends : (M : Machine) (s0 : ℕ) (w : List ℕ) (k : ℕ) → k ≡ length w → (path : List ℕ) → path ≡ trail_from M s0 (take k w) → IsPath M s0 w path false
path_ends M s0 w k every path is =
    let size : length path ≡ k = long M s0 w path k (omega (arith, every)) is in
    record {
      inside = omega (arith, size, every);
      states = is ∙ ap (λ (n : ℕ). trail_from M s0 (take n w)) (sym size);
      stops = λ e. cc;
      all = λ e. size ∙ every;
    }

pub returns-then-not-goes_on-clause-path : goal.returns-then-not-goes_on-clause-path
returns-then-not-goes_on-clause-path g c =
    let M : Machine = g.M.Machine.machine c.args.machine.now in
    let k = c.loop-place.place in
    let w = c.args.bytes.now in
    let h = c.loop-place.invariant in
    path_stops M c.args.first w k c.loop-place-test.true c.step-state.result c.push.new.self.items (state_one M c.args.first w k c.loop-place-test.true c.loop-place.state c.step-state.result h.walked c.step-state.ensures.state)
    (path_one M c.args.first w k c.loop-place-test.true c.loop-place.state c.step-state.result c.loop-place.path.items c.push.new.self.items h.walked c.step-state.ensures.state h.path c.in_ok-push.ensures.items) (sym c.goes_on.ensures ∙ c.if-not-goes_on.true)

pub returns-then-not-goes_on-clause-states : goal.returns-then-not-goes_on-clause-states
returns-then-not-goes_on-clause-states g c =
    one_below (g.M.Machine.states c.args.machine.now) c.loop-place.path.items c.step-state.result c.push.new.self.items c.in_ok-push.ensures.items c.loop-place.invariant.all_known c.step-state.ensures.known

pub loop-place-preserved : goal.loop-place-preserved
loop-place-preserved g c =
    let M : Machine = g.M.Machine.machine c.args.machine.now in
    let k = c.loop-place.place in
    let w = c.args.bytes.now in
    let h = c.loop-place.invariant in
    record {
      known = c.step-state.ensures.known;
      walked = state_one M c.args.first w k c.loop-place-test.true c.loop-place.state c.step-state.result h.walked c.step-state.ensures.state;
      path = path_one M c.args.first w k c.loop-place-test.true c.loop-place.state c.step-state.result c.loop-place.path.items c.push.new.self.items h.walked c.step-state.ensures.state h.path c.in_ok-push.ensures.items;
      all_known = one_below (g.M.Machine.states c.args.machine.now) c.loop-place.path.items c.step-state.result c.push.new.self.items c.in_ok-push.ensures.items h.all_known c.step-state.ensures.known;
    }

pub returns-clause-path : goal.returns-clause-path
returns-clause-path g c =
    path_ends (g.M.Machine.machine c.args.machine.now) c.args.first c.args.bytes.now c.loop-place.place (omega (arith, c.loop-place-test.false, c.loop-place.auto.place-end)) c.loop-place.path.items c.loop-place.invariant.path
