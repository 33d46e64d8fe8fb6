use Rattle.std.proofs.lemmas.Grind.{common_steps}
use Rattle.std.proofs.Common.{◌≡◌, ℕ, ◌+◌, ◌-◌, ◌<◌, List, length, take, refl, sym, ap, subst, ◌∙◌, arith}
use Rattle.std.proofs.lemmas.List.{take_all}
use Rattle.std.specs.Prelude.{filter_map}
use Rattle.std.proofs.lemmas.Result.{err_from_is_err_and}
use Rattle.lex_semantics.specs.Machine.{Machine}
use Rattle.lex_semantics.specs.PlainMachine.{match_of}
use Rattle.lex_semantics.specs.Trail.{falling}
use Rattle.lex_semantics.specs.Text.{BeginsWith}
use Rattle.lexscan_window.specs.declared.act.ActionFlow.TheVariants as Step
use Rattle.lexscan_matching.specs.Descends.{conditions_of, Passed, Tried, CutOff, Takes}
use Rattle.lexscan_matching.proofs.Descending as Down
use Rattle.lexscan_matching.proofs.descent.descend.Goals as goal

pub accepts-rules-requires : goal.accepts-rules-requires
accepts-rules-requires g c = c.requires.known _ (rw c.state.ensures (Down.among_get c.args.path.now.states (c.lengths.len - 1) (omega (arith, c.lengths-test.true, c.lengths.invariant.short))))

pub returns-in_err-try_rules : goal.returns-in_err-try_rules
returns-in_err-try_rules g c = record {
  same = grind (arith, common_steps);
  sink = grind (arith, common_steps);
  inside = grind (arith, common_steps);
  performed = grind (arith, common_steps);
  takes = grind (arith, common_steps);
  cut_off = (let M : Machine = g.M.Machine.machine c.args.machine.now in
      let path : List ℕ = c.args.path.now.states in
      let n : ℕ = c.lengths.len - 1 in
      let e : c.lengths.len ≡ n + 1 = omega (arith, c.lengths-test.true) in
      let lt : n < length path = omega (arith, c.lengths-test.true, c.lengths.invariant.short) in
      let here : filter_map (match_of M c.lengths.len) c.accepts-rules.result.now ≡ Down.here M g.K.Sink.wrote g.met.K.Sink.wrote_more c.args.window.now.bytes c.args.at path n =
      ap (λ k. filter_map (match_of M k) c.accepts-rules.result.now) e ∙ ap (filter_map (match_of M (n + 1))) (c.accepts-rules.ensures ∙ ap M.accepts c.state.ensures) in
      let p = err_from_is_err_and c.from_residual.result c.from_residual.ensures.1 in
      rw p.1 (Down.state_cut M g.K.Sink.wrote g.met.K.Sink.wrote_more c.args.window.now.bytes c.args.at path _ _ _ n (conditions_of c.args.acting.now) (conditions_of c.lengths.acting) lt
      (subst (λ k. Passed M g.K.Sink.wrote c.args.outlet.now.sink.now c.lengths.outlet.sink.now c.args.window.now.bytes c.args.at (falling M 0 path) (falling M 0 (take k path)) (conditions_of c.args.acting.now) (conditions_of c.lengths.acting)) e c.lengths.invariant.passed)
      (subst (λ l. CutOff M g.K.Sink.wrote c.lengths.outlet.sink.now c.try_rules.new.outlet.sink.now c.args.window.now.bytes c.args.at l (conditions_of c.lengths.acting)) here c.in_err-try_rules.ensures.cut_off)));
}

pub returns-in-Next : goal.returns-in-Next
returns-in-Next g c = record {
  same = grind (arith, common_steps);
  sink = grind (arith, common_steps);
  inside = grind (arith, common_steps);
  performed = (let ens = rw c.in-Next.is at c.in_ok-try_rules.ensures in
      let M : Machine = g.M.Machine.machine c.args.machine.now in
      let path : List ℕ = c.args.path.now.states in
      let n : ℕ = c.lengths.len - 1 in
      let e : c.lengths.len ≡ n + 1 = omega (arith, c.lengths-test.true) in
      let lt : n < length path = omega (arith, c.lengths-test.true, c.lengths.invariant.short) in
      let here : filter_map (match_of M c.lengths.len) c.accepts-rules.result.now ≡ Down.here M g.K.Sink.wrote g.met.K.Sink.wrote_more c.args.window.now.bytes c.args.at path n =
      ap (λ k. filter_map (match_of M k) c.accepts-rules.result.now) e ∙ ap (filter_map (match_of M (n + 1))) (c.accepts-rules.ensures ∙ ap M.accepts c.state.ensures) in
      Down.state_stop M g.K.Sink.wrote g.met.K.Sink.wrote_more c.args.window.now.bytes c.args.at path _ _ _ n (conditions_of c.args.acting.now) (conditions_of c.lengths.acting) c.try_rules.new.acting Step.Next (λ p. cc) lt
      (subst (λ k. Passed M g.K.Sink.wrote c.args.outlet.now.sink.now c.lengths.outlet.sink.now c.args.window.now.bytes c.args.at (falling M 0 path) (falling M 0 (take k path)) (conditions_of c.args.acting.now) (conditions_of c.lengths.acting)) e c.lengths.invariant.passed)
      (subst (λ l. Tried M g.K.Sink.wrote c.lengths.outlet.sink.now c.try_rules.new.outlet.sink.now c.args.window.now.bytes c.args.at l (conditions_of c.lengths.acting) c.try_rules.new.acting Step.Next) here ens.tried));
  takes = (let ens = rw c.in-Next.is at c.in_ok-try_rules.ensures in
      let M : Machine = g.M.Machine.machine c.args.machine.now in
      let path : List ℕ = c.args.path.now.states in
      let n : ℕ = c.lengths.len - 1 in
      let e : c.lengths.len ≡ n + 1 = omega (arith, c.lengths-test.true) in
      let lt : n < length path = omega (arith, c.lengths-test.true, c.lengths.invariant.short) in
      let here : filter_map (match_of M c.lengths.len) c.accepts-rules.result.now ≡ Down.here M g.K.Sink.wrote g.met.K.Sink.wrote_more c.args.window.now.bytes c.args.at path n =
      ap (λ k. filter_map (match_of M k) c.accepts-rules.result.now) e ∙ ap (filter_map (match_of M (n + 1))) (c.accepts-rules.ensures ∙ ap M.accepts c.state.ensures) in
      Down.state_takes M g.K.Sink.wrote g.met.K.Sink.wrote_more c.args.window.now.bytes c.args.at path _ _ n (conditions_of c.args.acting.now) (conditions_of c.lengths.acting) c.try_rules.new.matched lt
      (subst (λ k. Passed M g.K.Sink.wrote c.args.outlet.now.sink.now c.lengths.outlet.sink.now c.args.window.now.bytes c.args.at (falling M 0 path) (falling M 0 (take k path)) (conditions_of c.args.acting.now) (conditions_of c.lengths.acting)) e c.lengths.invariant.passed)
      (subst (λ l. Takes M c.args.window.now.bytes c.args.at l (conditions_of c.lengths.acting) c.try_rules.new.matched) here ens.takes));
  cut_off = grind (arith, common_steps);
}

pub returns-in-Over : goal.returns-in-Over
returns-in-Over g c = record {
  same = grind (arith, common_steps);
  sink = grind (arith, common_steps);
  inside = grind (arith, common_steps);
  performed = (let ens = rw c.in-Over.is at c.in_ok-try_rules.ensures in
      let M : Machine = g.M.Machine.machine c.args.machine.now in
      let path : List ℕ = c.args.path.now.states in
      let n : ℕ = c.lengths.len - 1 in
      let e : c.lengths.len ≡ n + 1 = omega (arith, c.lengths-test.true) in
      let lt : n < length path = omega (arith, c.lengths-test.true, c.lengths.invariant.short) in
      let here : filter_map (match_of M c.lengths.len) c.accepts-rules.result.now ≡ Down.here M g.K.Sink.wrote g.met.K.Sink.wrote_more c.args.window.now.bytes c.args.at path n =
      ap (λ k. filter_map (match_of M k) c.accepts-rules.result.now) e ∙ ap (filter_map (match_of M (n + 1))) (c.accepts-rules.ensures ∙ ap M.accepts c.state.ensures) in
      Down.state_stop M g.K.Sink.wrote g.met.K.Sink.wrote_more c.args.window.now.bytes c.args.at path _ _ _ n (conditions_of c.args.acting.now) (conditions_of c.lengths.acting) c.try_rules.new.acting (Step.Over c.in-Over.finish) (λ p. cc) lt
      (subst (λ k. Passed M g.K.Sink.wrote c.args.outlet.now.sink.now c.lengths.outlet.sink.now c.args.window.now.bytes c.args.at (falling M 0 path) (falling M 0 (take k path)) (conditions_of c.args.acting.now) (conditions_of c.lengths.acting)) e c.lengths.invariant.passed)
      (subst (λ l. Tried M g.K.Sink.wrote c.lengths.outlet.sink.now c.try_rules.new.outlet.sink.now c.args.window.now.bytes c.args.at l (conditions_of c.lengths.acting) c.try_rules.new.acting (Step.Over c.in-Over.finish)) here ens.tried));
  takes = (let ens = rw c.in-Over.is at c.in_ok-try_rules.ensures in
      let M : Machine = g.M.Machine.machine c.args.machine.now in
      let path : List ℕ = c.args.path.now.states in
      let n : ℕ = c.lengths.len - 1 in
      let e : c.lengths.len ≡ n + 1 = omega (arith, c.lengths-test.true) in
      let lt : n < length path = omega (arith, c.lengths-test.true, c.lengths.invariant.short) in
      let here : filter_map (match_of M c.lengths.len) c.accepts-rules.result.now ≡ Down.here M g.K.Sink.wrote g.met.K.Sink.wrote_more c.args.window.now.bytes c.args.at path n =
      ap (λ k. filter_map (match_of M k) c.accepts-rules.result.now) e ∙ ap (filter_map (match_of M (n + 1))) (c.accepts-rules.ensures ∙ ap M.accepts c.state.ensures) in
      Down.state_takes M g.K.Sink.wrote g.met.K.Sink.wrote_more c.args.window.now.bytes c.args.at path _ _ n (conditions_of c.args.acting.now) (conditions_of c.lengths.acting) c.try_rules.new.matched lt
      (subst (λ k. Passed M g.K.Sink.wrote c.args.outlet.now.sink.now c.lengths.outlet.sink.now c.args.window.now.bytes c.args.at (falling M 0 path) (falling M 0 (take k path)) (conditions_of c.args.acting.now) (conditions_of c.lengths.acting)) e c.lengths.invariant.passed)
      (subst (λ l. Takes M c.args.window.now.bytes c.args.at l (conditions_of c.lengths.acting) c.try_rules.new.matched) here ens.takes));
  cut_off = grind (arith, common_steps);
}

pub lengths-preserved : goal.lengths-preserved
lengths-preserved g c =
    let ens = rw c.in-Again.is at c.in_ok-try_rules.ensures in
    let M : Machine = g.M.Machine.machine c.args.machine.now in
    let path : List ℕ = c.args.path.now.states in
    let n : ℕ = c.lengths.len - 1 in
    let e : c.lengths.len ≡ n + 1 = omega (arith, c.lengths-test.true) in
    let lt : n < length path = omega (arith, c.lengths-test.true, c.lengths.invariant.short) in
    let here : filter_map (match_of M c.lengths.len) c.accepts-rules.result.now ≡ Down.here M g.K.Sink.wrote g.met.K.Sink.wrote_more c.args.window.now.bytes c.args.at path n =
    ap (λ k. filter_map (match_of M k) c.accepts-rules.result.now) e ∙ ap (filter_map (match_of M (n + 1))) (c.accepts-rules.ensures ∙ ap M.accepts c.state.ensures) in
    record {
      short = omega (arith, c.lengths.invariant.short);
      same = ens.same ∙ c.lengths.invariant.same;
      failures = omega (arith, ens.sink.write_faults, c.lengths.invariant.failures);
      live = ens.sink.may_write;
      inside = ens.inside;
      passed = Down.state_passed M g.K.Sink.wrote g.met.K.Sink.wrote_more c.args.window.now.bytes c.args.at path _ _ _ n (conditions_of c.args.acting.now) (conditions_of c.lengths.acting) c.try_rules.new.acting lt
          (subst (λ k. Passed M g.K.Sink.wrote c.args.outlet.now.sink.now c.lengths.outlet.sink.now c.args.window.now.bytes c.args.at (falling M 0 path) (falling M 0 (take k path)) (conditions_of c.args.acting.now) (conditions_of c.lengths.acting)) e c.lengths.invariant.passed)
          (subst (λ l. Tried M g.K.Sink.wrote c.lengths.outlet.sink.now c.try_rules.new.outlet.sink.now c.args.window.now.bytes c.args.at l (conditions_of c.lengths.acting) c.try_rules.new.acting Step.Again) here ens.tried);
    }

pub returns-in-Err : goal.returns-in-Err
returns-in-Err g c = record {
  same = grind (arith, common_steps);
  sink = grind (arith, common_steps);
  inside = grind (arith, common_steps);
  performed = grind (arith, common_steps);
  takes = grind (arith, common_steps);
  cut_off = (let M : Machine = g.M.Machine.machine c.args.machine.now in
      let path : List ℕ = c.args.path.now.states in
      let w : List ℕ = c.args.window.now.bytes in
      let none : c.lengths.len ≡ 0 = omega (arith, c.lengths-test.false) in
      let count : c.args.at + 1 - 0 ≡ c.args.at + 1 = omega arith in
      let text : c.slice.result.now ≡ take (c.args.at + 1) w = c.slice.ensures ∙ ap (λ k. take k w) count in
      Down.default_cut M g.K.Sink.wrote g.met.K.Sink.wrote_more w c.args.at path _ _ _ (conditions_of c.args.acting.now) (conditions_of c.lengths.acting) (omega (arith, c.requires.place, c.requires.some))
      (subst (λ k. Passed M g.K.Sink.wrote c.args.outlet.now.sink.now c.lengths.outlet.sink.now w c.args.at (falling M 0 path) (falling M 0 (take k path)) (conditions_of c.args.acting.now) (conditions_of c.lengths.acting)) none c.lengths.invariant.passed)
      (subst (λ (l : List ℕ). (front : List ℕ) × BeginsWith l front × g.K.Sink.wrote c.lengths.outlet.sink.now front c.put.new.outlet.sink.now) text c.in-Err.ensures.bytes));
}

pub returns-in-Ok : goal.returns-in-Ok
returns-in-Ok g c = record {
  same = grind (arith, common_steps);
  sink = grind (arith, common_steps);
  inside = grind (arith, common_steps);
  performed = (let M : Machine = g.M.Machine.machine c.args.machine.now in
      let path : List ℕ = c.args.path.now.states in
      let w : List ℕ = c.args.window.now.bytes in
      let none : c.lengths.len ≡ 0 = omega (arith, c.lengths-test.false) in
      let count : c.args.at + 1 - 0 ≡ c.args.at + 1 = omega arith in
      let text : c.slice.result.now ≡ take (c.args.at + 1) w = c.slice.ensures ∙ ap (λ k. take k w) count in
      Down.default_stop M g.K.Sink.wrote g.met.K.Sink.wrote_more w c.args.at path _ _ _ (conditions_of c.args.acting.now) (conditions_of c.lengths.acting) (omega (arith, c.requires.place, c.requires.some))
      (subst (λ k. Passed M g.K.Sink.wrote c.args.outlet.now.sink.now c.lengths.outlet.sink.now w c.args.at (falling M 0 path) (falling M 0 (take k path)) (conditions_of c.args.acting.now) (conditions_of c.lengths.acting)) none c.lengths.invariant.passed)
      (subst (λ l. g.K.Sink.wrote c.lengths.outlet.sink.now l c.put.new.outlet.sink.now) text c.in-Ok.ensures.bytes));
  takes = (let M : Machine = g.M.Machine.machine c.args.machine.now in
      let path : List ℕ = c.args.path.now.states in
      let w : List ℕ = c.args.window.now.bytes in
      let none : c.lengths.len ≡ 0 = omega (arith, c.lengths-test.false) in
      Down.default_takes M g.K.Sink.wrote g.met.K.Sink.wrote_more w c.args.at path _ _ (conditions_of c.args.acting.now) (conditions_of c.lengths.acting) (omega (arith, c.requires.place, c.requires.some))
      (subst (λ k. Passed M g.K.Sink.wrote c.args.outlet.now.sink.now c.lengths.outlet.sink.now w c.args.at (falling M 0 path) (falling M 0 (take k path)) (conditions_of c.args.acting.now) (conditions_of c.lengths.acting)) none c.lengths.invariant.passed));
  cut_off = grind (arith, common_steps);
}

pub lengths-init : goal.lengths-init
lengths-init g c =
    let M : Machine = g.M.Machine.machine c.args.machine.now in
    let path : List ℕ = c.args.path.now.states in
    let whole : take c.len-len.result path ≡ path = take_all c.len-len.result path (omega (arith, c.len-len.ensures)) in
    record {
      short = omega (arith, c.len-len.ensures);
      same = refl;
      failures = refl;
      live = c.requires.live;
      inside = c.requires.inside;
      passed = subst (λ l. Passed M g.K.Sink.wrote c.args.outlet.now.sink.now c.args.outlet.now.sink.now c.args.window.now.bytes c.args.at (falling M 0 path) (falling M 0 l) (conditions_of c.args.acting.now) (conditions_of c.args.acting.now)) (sym whole)
          (Down.passed_first M g.K.Sink.wrote g.met.K.Sink.wrote_none g.met.K.Sink.wrote_more c.args.window.now.bytes c.args.at _ (falling M 0 path) (conditions_of c.args.acting.now));
    }
