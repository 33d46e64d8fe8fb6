use Rattle.std.proofs.lemmas.Grind.{common_steps}
use Rattle.std.proofs.Common.{◌≡◌, ℕ, ◌+◌, ◌-◌, ◌≤◌, ◌<◌, true, refl, false, length, drop, inl, inr, sym, ap, subst, ◌∙◌, arith, Bool, List, [], ◌∷◌, ◌++◌, append-nil}
use Rattle.std.proofs.lemmas.List.{length-append}
use Rattle.std.proofs.lemmas.Result.{err_from_is_err_and}
use Rattle.std.specs.Prelude.{if◌then◌else◌}
use Rattle.lex_semantics.specs.Machine.{Machine}
use Rattle.lexscan_window.specs.declared.state.TextPlace.{TextPlace}
use Rattle.lexscan_window.specs.declared.state.Reading.{Reading}
use Rattle.lexscan_window.specs.declared.walk.Stop.TheVariants as Stop
use Rattle.lexscan_matching.specs.Looks.{SoFar}
use Rattle.lexscan_matching.specs.Picks.{path_of, state_at}
use Rattle.lexscan_window.specs.Reads.{end_step}
use Rattle.lexscan_window.specs.Walks.{Grown, StopsAt, ends_at}
use Rattle.lexscan_matching.proofs.Growing as Grow
use Rattle.lexscan_matching.proofs.Limiting.{filled, fill_refused, ended}
use Rattle.lexscan_window.specs.declared.error.RunError.TheVariants.{TooManyReads}
use Rattle.lexscan_matching.proofs.last_states.look_ahead_more.Goals as goal

pub returns-in-Done : goal.returns-in-Done
returns-in-Done g c = record {
  same = grind (arith, common_steps);
  same_sink = grind (arith, common_steps);
  put = record {
    sink = g.met.K.Sink.wrote_more _ _ _ _ _ c.fills.invariant.put c.in_ok-walk.ensures.put.sink;
    write_faults = omega (arith, c.in_ok-walk.ensures.put.write_faults, c.fills.invariant.write_faults);
    may_write = c.in_ok-walk.ensures.put.may_write;
  };
  took = Grow.took_more g.S.Source.gave _ _ _ _ _ _ g.met.S.Source.gave_more c.fills.invariant.took c.in_ok-walk.ensures.took;
  looked = record {
    reach = reach;
    some = omega (arith, reach_is, c.fills.invariant.place, sizes, stops.0);
    state = c.in_ok-walk.walk.state;
    so_far = so_far;
    size = (let longer = Grow.took_more g.S.Source.gave _ _ _ _ _ _ g.met.S.Source.gave_more c.fills.invariant.took c.in_ok-walk.ensures.took in
        let e : length new.window.bytes ≡ length c.args.reading.now.window.bytes + length longer.got = ap length longer.held ∙ length-append c.args.reading.now.window.bytes longer.got in
        omega (arith, e, reach_is, c.fills.invariant.place, sizes));
    stops = inl (stops.1, c.in_ok-walk.ensures.at_end ∙ ap ends_at c.in-Done.is ∙ sym reading);
  };
  tells = record {
    some = some;
    inside = omega (arith, reach_is, c.fills.invariant.place, sizes);
    state_is = so_far.state_is;
    before_is = before_is some;
    known = c.in_ok-walk.ensures.known;
    known_before = known_before;
  };
  unmet = grind (arith, common_steps);
  source = grind (arith, common_steps);
  too_many = grind (arith, common_steps);
  limit = filled _ c.args.place g.S.Source.gave _ _ _ _ _ _ c.fills.invariant.took c.in_ok-walk.ensures.took TooManyReads _ _ c.in_ok-walk.walk c.in_ok-walk.ensures.at_limit;
}
  where
    M : Machine
    M = g.M.Machine.machine c.args.machine.now

    p : TextPlace
    p = c.args.place

    old : Reading
    old = c.fills.reading

    new : Reading
    new = c.fill.new.reading

    grown : Grown M old new c.fills.now.state c.in_ok-walk.walk
    grown = c.in_ok-walk.ensures.grown

    sizes : length new.window.bytes ≡ length old.window.bytes + length grown.got
    sizes = ap length grown.held ∙ length-append old.window.bytes grown.got

    reach : ℕ
    reach = c.len.result - p.at

    reach_is : reach ≡ length new.window.bytes - p.at
    reach_is = ap (λ k. k - p.at) c.len.ensures

    so_far : SoFar M p (drop p.at new.window.bytes) reach c.in_ok-walk.walk.state (path_of M p new.window.bytes reach)
    so_far = Grow.walked_on M p old new c.fills.now.reach c.fills.now.state c.fills.now.before c.in_ok-walk.walk c.fills.invariant.place c.fills.invariant.so_far c.fills.invariant.goes_on grown reach reach_is

    stops : StopsAt M grown.got c.in_ok-walk.walk.state Stop.Done
    stops = subst (StopsAt M grown.got c.in_ok-walk.walk.state) c.in-Done.is grown.stops

    before_is : 1 ≤ reach → c.in_ok-walk.walk.before ≡ state_at M p new.window.bytes (reach - 1)
    before_is = Grow.before_on M p old new c.fills.now.reach c.fills.now.state c.fills.now.before c.in_ok-walk.walk.before c.in_ok-walk.walk c.fills.invariant.place c.fills.invariant.so_far c.fills.invariant.before_is grown
        (λ _. refl) (λ none. absurd (omega (arith, none, grown.count, stops.0))) reach reach_is

    known_before : c.in_ok-walk.walk.before < g.M.Machine.states c.args.machine.now
    known_before = c.in_ok-walk.ensures.known_before

    going : old.at_end ≡ false
    going = c.fills-test.true

    reading : c.args.reading.now.at_end ≡ false
    reading = Grow.was_reading c.args.reading.now.at_end old.at_end c.fills.invariant.took.end_stays going

    some : 1 ≤ reach
    some = omega (arith, reach_is, c.fills.invariant.place, sizes, stops.0)

pub fills-preserved-in-End : goal.fills-preserved-in-End
fills-preserved-in-End g c = record {
  place = omega (arith, reach_is, c.fills.invariant.place, sizes);
  so_far = so_far;
  goes_on = Grow.goes_after M c.fills.now.reach c.fills.now.state reach grown.got c.in_ok-walk.walk.state c.in_ok-walk.walk.before grown.walked stops c.fills.invariant.goes_on (omega (arith, reach_is, c.fills.invariant.place, sizes));
  before_is = before_is;
  state_known = c.in_ok-walk.ensures.known;
  before_known = known_before;
  took = Grow.took_more g.S.Source.gave _ _ _ _ _ _ g.met.S.Source.gave_more c.fills.invariant.took c.in_ok-walk.ensures.took;
  same = c.in_ok-walk.ensures.same ∙ c.fills.invariant.same;
  ends = omega (arith, c.in_ok-walk.ensures.source.ends, c.fills.invariant.ends, Grow.end_step_same c.args.reading.now.at_end old.at_end (going ∙ sym reading), ap (λ b. end_step b new.at_end) (going ∙ sym reading));
  failures = omega (arith, c.in_ok-walk.ensures.source.read_faults, c.fills.invariant.failures);
  live = λ e. absurd (Grow.clash new.at_end ended e);
  sink_same = c.in_ok-walk.ensures.same_sink ∙ c.fills.invariant.sink_same;
  put = g.met.K.Sink.wrote_more _ _ _ _ _ c.fills.invariant.put c.in_ok-walk.ensures.put.sink;
  write_faults = omega (arith, c.in_ok-walk.ensures.put.write_faults, c.fills.invariant.write_faults);
  may_write = c.in_ok-walk.ensures.put.may_write;
  still = λ e. absurd (Grow.clash c.args.reading.now.at_end e reading);
}
  where
    M : Machine
    M = g.M.Machine.machine c.args.machine.now

    p : TextPlace
    p = c.args.place

    old : Reading
    old = c.fills.reading

    new : Reading
    new = c.fill.new.reading

    grown : Grown M old new c.fills.now.state c.in_ok-walk.walk
    grown = c.in_ok-walk.ensures.grown

    sizes : length new.window.bytes ≡ length old.window.bytes + length grown.got
    sizes = ap length grown.held ∙ length-append old.window.bytes grown.got

    reach : ℕ
    reach = c.len.result - p.at

    reach_is : reach ≡ length new.window.bytes - p.at
    reach_is = ap (λ k. k - p.at) c.len.ensures

    so_far : SoFar M p (drop p.at new.window.bytes) reach c.in_ok-walk.walk.state (path_of M p new.window.bytes reach)
    so_far = Grow.walked_on M p old new c.fills.now.reach c.fills.now.state c.fills.now.before c.in_ok-walk.walk c.fills.invariant.place c.fills.invariant.so_far c.fills.invariant.goes_on grown reach reach_is

    before_is : 1 ≤ reach → c.before_last.result ≡ state_at M p new.window.bytes (reach - 1)
    before_is = Grow.before_on M p old new c.fills.now.reach c.fills.now.state c.fills.now.before c.before_last.result c.in_ok-walk.walk c.fills.invariant.place c.fills.invariant.so_far c.fills.invariant.before_is grown
        c.before_last.ensures.some c.before_last.ensures.none reach reach_is

    known_before : c.before_last.result < g.M.Machine.states c.args.machine.now
    known_before = elim c.before_last.ensures.one [
      | inl e ↦ subst (λ n. n < g.M.Machine.states c.args.machine.now) (sym e) c.in_ok-walk.ensures.known_before
      | inr e ↦ subst (λ n. n < g.M.Machine.states c.args.machine.now) (sym e) c.fills.invariant.before_known
    ]

    going : old.at_end ≡ false
    going = c.fills-test.true

    reading : c.args.reading.now.at_end ≡ false
    reading = Grow.was_reading c.args.reading.now.at_end old.at_end c.fills.invariant.took.end_stays going

    stops : 1 ≤ length grown.got → M.goes_on c.in_ok-walk.walk.state ≡ true
    stops = subst (StopsAt M grown.got c.in_ok-walk.walk.state) c.in-End.is grown.stops

    ended : new.at_end ≡ true
    ended = c.in_ok-walk.ensures.at_end ∙ ap ends_at c.in-End.is

pub fills-preserved : goal.fills-preserved
fills-preserved g c = record {
  place = omega (arith, reach_is, c.fills.invariant.place, sizes);
  so_far = so_far;
  goes_on = Grow.goes_after M c.fills.now.reach c.fills.now.state reach grown.got c.in_ok-walk.walk.state c.in_ok-walk.walk.before grown.walked stops c.fills.invariant.goes_on (omega (arith, reach_is, c.fills.invariant.place, sizes));
  before_is = before_is;
  state_known = c.in_ok-walk.ensures.known;
  before_known = known_before;
  took = Grow.took_more g.S.Source.gave _ _ _ _ _ _ g.met.S.Source.gave_more c.fills.invariant.took c.in_ok-walk.ensures.took;
  same = c.in_ok-walk.ensures.same ∙ c.fills.invariant.same;
  ends = omega (arith, c.in_ok-walk.ensures.source.ends, c.fills.invariant.ends, Grow.end_step_same c.args.reading.now.at_end old.at_end (going ∙ sym reading), ap (λ b. end_step b new.at_end) (going ∙ sym reading));
  failures = omega (arith, c.in_ok-walk.ensures.source.read_faults, c.fills.invariant.failures);
  live = λ e. c.in_ok-walk.ensures.source.may_read e;
  sink_same = c.in_ok-walk.ensures.same_sink ∙ c.fills.invariant.sink_same;
  put = g.met.K.Sink.wrote_more _ _ _ _ _ c.fills.invariant.put c.in_ok-walk.ensures.put.sink;
  write_faults = omega (arith, c.in_ok-walk.ensures.put.write_faults, c.fills.invariant.write_faults);
  may_write = c.in_ok-walk.ensures.put.may_write;
  still = λ e. absurd (Grow.clash c.args.reading.now.at_end e reading);
}
  where
    M : Machine
    M = g.M.Machine.machine c.args.machine.now

    p : TextPlace
    p = c.args.place

    old : Reading
    old = c.fills.reading

    new : Reading
    new = c.fill.new.reading

    grown : Grown M old new c.fills.now.state c.in_ok-walk.walk
    grown = c.in_ok-walk.ensures.grown

    sizes : length new.window.bytes ≡ length old.window.bytes + length grown.got
    sizes = ap length grown.held ∙ length-append old.window.bytes grown.got

    reach : ℕ
    reach = c.len.result - p.at

    reach_is : reach ≡ length new.window.bytes - p.at
    reach_is = ap (λ k. k - p.at) c.len.ensures

    so_far : SoFar M p (drop p.at new.window.bytes) reach c.in_ok-walk.walk.state (path_of M p new.window.bytes reach)
    so_far = Grow.walked_on M p old new c.fills.now.reach c.fills.now.state c.fills.now.before c.in_ok-walk.walk c.fills.invariant.place c.fills.invariant.so_far c.fills.invariant.goes_on grown reach reach_is

    before_is : 1 ≤ reach → c.before_last.result ≡ state_at M p new.window.bytes (reach - 1)
    before_is = Grow.before_on M p old new c.fills.now.reach c.fills.now.state c.fills.now.before c.before_last.result c.in_ok-walk.walk c.fills.invariant.place c.fills.invariant.so_far c.fills.invariant.before_is grown
        c.before_last.ensures.some c.before_last.ensures.none reach reach_is

    known_before : c.before_last.result < g.M.Machine.states c.args.machine.now
    known_before = elim c.before_last.ensures.one [
      | inl e ↦ subst (λ n. n < g.M.Machine.states c.args.machine.now) (sym e) c.in_ok-walk.ensures.known_before
      | inr e ↦ subst (λ n. n < g.M.Machine.states c.args.machine.now) (sym e) c.fills.invariant.before_known
    ]

    going : old.at_end ≡ false
    going = c.fills-test.true

    reading : c.args.reading.now.at_end ≡ false
    reading = Grow.was_reading c.args.reading.now.at_end old.at_end c.fills.invariant.took.end_stays going

    stops : 1 ≤ length grown.got → M.goes_on c.in_ok-walk.walk.state ≡ true
    stops = subst (StopsAt M grown.got c.in_ok-walk.walk.state) c.in-Full.is grown.stops

    on : new.at_end ≡ false
    on = c.in_ok-walk.ensures.at_end ∙ ap ends_at c.in-Full.is

none_of : (l : List ℕ) → length l ≡ 0 → l ≡ []
none_of [] e = refl
none_of (x ∷ l) e = absurd (omega (arith, e))

pub returns-in_err-walk : goal.returns-in_err-walk
returns-in_err-walk g c = record {
  same = grind (arith, common_steps);
  same_sink = grind (arith, common_steps);
  put = (let p = err_from_is_err_and c.from_residual.result c.from_residual.ensures.1 in
      rw (p.1, p.2) (record {
        sink = g.met.K.Sink.wrote_more _ _ _ _ _ c.fills.invariant.put c.in_err-walk.ensures.put.sink;
        write_faults = omega (arith, c.in_err-walk.ensures.put.write_faults, c.fills.invariant.write_faults);
        may_write = tt;
      }));
  took = Grow.took_more g.S.Source.gave _ _ _ _ _ _ g.met.S.Source.gave_more c.fills.invariant.took c.in_err-walk.ensures.took;
  looked = grind (arith, common_steps);
  tells = grind (arith, common_steps);
  unmet = grind (arith, common_steps);
  source = grind (arith, common_steps);
  too_many = grind (arith, common_steps);
  limit = (let p = err_from_is_err_and c.from_residual.result c.from_residual.ensures.1 in
      rw (p.1, p.2) (fill_refused _ c.args.place g.S.Source.gave _ _ _ _ _ _ c.fills.invariant.took c.in_err-walk.ensures.took _ _ c.in_err-walk.ensures.unchanged.0 (λ used. grind (arith, common_steps))));
}

pub overflow_sub-now : goal.overflow_sub-now
overflow_sub-now g c =
    let grown = c.in_ok-walk.ensures.grown in
    let sizes = ap length grown.held ∙ length-append c.fills.reading.window.bytes grown.got in
    omega (arith, c.len.ensures, c.fills.invariant.place, sizes)

pub fills-smaller : goal.fills-smaller
fills-smaller g c =
    let took = c.in_ok-walk.ensures.took in
    let grown = c.in_ok-walk.ensures.grown in
    let sizes = ap length grown.held ∙ length-append c.fills.reading.window.bytes grown.got in
    let sizes_too = ap length took.held ∙ length-append c.fills.reading.window.bytes took.got in
    let some = c.in_ok-walk.ensures.some (ap ends_at c.in-Full.is) in
    let before = ap {B = ℕ} (λ (b : Bool). if b then 0 else 1) c.fills-test.true in
    let after = ap {B = ℕ} (λ (b : Bool). if b then 0 else 1) (c.in_ok-walk.ensures.at_end ∙ ap ends_at c.in-Full.is) in
    omega (arith, sizes, sizes_too, some, grown.count, took.taken, took.max_reads, c.in_ok-walk.ensures.source.few_reads, before, after)

pub returns-then-now-eq0 : goal.returns-then-now-eq0
returns-then-now-eq0 g c = record {
  same = grind (arith, common_steps);
  same_sink = grind (arith, common_steps);
  put = grind (arith, common_steps);
  took = grind (arith, common_steps);
  looked = (let took = c.fills.invariant.took in
      let sizes = ap length took.held ∙ length-append c.args.reading.now.window.bytes took.got in
      let none = none_of took.got (omega (arith, sizes, c.fills.invariant.place, c.if-now-eq0.true, c.requires.asks.all)) in
      record {
        same = took.held ∙ ap (λ l. c.args.reading.now.window.bytes ++ l) none ∙ append-nil c.args.reading.now.window.bytes;
        all = omega (arith, c.fills.invariant.place, c.if-now-eq0.true);
        at_end = c.fills-test.false;
      });
  tells = grind (arith, common_steps);
  unmet = grind (arith, common_steps);
  source = grind (arith, common_steps);
  too_many = grind (arith, common_steps);
  limit = ended _ _ c.args.place g.S.Source.gave _ _ _ _ c.fills.invariant.took _ c.fills-test.false;
}

pub returns-else-now-eq0 : goal.returns-else-now-eq0
returns-else-now-eq0 g c = record {
  same = grind (arith, common_steps);
  same_sink = grind (arith, common_steps);
  put = grind (arith, common_steps);
  took = grind (arith, common_steps);
  looked = (let took = c.fills.invariant.took in
      let sizes = ap length took.held ∙ length-append c.args.reading.now.window.bytes took.got in
      let some : 1 ≤ c.fills.now.reach = omega (arith, c.if-now-eq0.false) in
      record {
        reach = c.fills.now.reach;
        some = some;
        state = c.fills.now.state;
        so_far = c.fills.invariant.so_far;
        size = omega (arith, sizes, c.fills.invariant.place, c.requires.asks.all);
        stops = inr (c.fills.invariant.goes_on some, c.fills.invariant.place, c.fills-test.false);
      });
  tells = grind (arith, common_steps);
  unmet = grind (arith, common_steps);
  source = grind (arith, common_steps);
  too_many = grind (arith, common_steps);
  limit = ended _ _ c.args.place g.S.Source.gave _ _ _ _ c.fills.invariant.took _ c.fills-test.false;
}
