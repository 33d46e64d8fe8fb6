use Rattle.std.proofs.lemmas.Grind.{common_steps}
use Rattle.std.proofs.Common.{◌≡◌, ◌+◌, ◌≤◌, ◌++◌, ◌∷◌, [], true, false, length, get_or, sym, ap, subst, ◌∙◌, arith}
use Rattle.std.proofs.lemmas.List.{length-append}
use Rattle.std.proofs.lemmas.Result.{err_from_is_err_and}
use Rattle.lex_semantics.specs.Machine.{Machine}
use Rattle.std.specs.Prelude.{⊤}
use Rattle.lexscan_window.specs.Reads.{IsThere}
use Rattle.lexscan_matching.proofs.Growing as Grow
use Rattle.lexscan_matching.proofs.Limiting.{fetch_refused, ended}
use Rattle.lexscan_window.specs.Reads.{end_step}
use Rattle.lexscan_matching.proofs.looking.look_ahead.Goals as goal
use Rattle.lexscan_matching.proofs.looking.look_ahead.Goals.{else-len-gt0-via-then-len-gt0+else-not-goes_on, else-len-gt0-via-else-len-gt0}

pub bytes-preserved : goal.bytes-preserved
bytes-preserved g c = record {
  place = omega (arith, c.bytes.invariant.place);
  so_far = Grow.step_more M c.args.place c.bytes.reading.window.bytes c.fetch.new.reading.window.bytes c.in_ok-fetch.ensures.took.got c.bytes.len c.bytes.state c.step-state.result c.bytes.path.states c.push.new.self.states
      (omega (arith, c.bytes.invariant.size, c.requires.inside)) c.in_ok-fetch.ensures.took.held (omega (arith, has.0, c.bytes.invariant.place)) c.bytes.invariant.so_far going stepped pushed;
  count = omega (arith, ap length pushed, length-append c.bytes.path.states (c.step-state.result ∷ []), c.bytes.invariant.count);
  state_known = c.step-state.ensures.known;
  known = Grow.known_more (g.M.Machine.states c.args.machine.now) c.step-state.result c.bytes.path.states c.push.new.self.states pushed c.step-state.ensures.known c.bytes.invariant.known;
  took = Grow.took_more g.S.Source.gave _ _ _ _ _ _ g.met.S.Source.gave_more c.bytes.invariant.took c.in_ok-fetch.ensures.took;
  same = c.in_ok-fetch.ensures.same ∙ c.bytes.invariant.same;
  ends = omega (arith, c.in_ok-fetch.ensures.source.ends, c.bytes.invariant.ends, Grow.end_step_same c.bytes.reading.at_end c.fetch.new.reading.at_end has.2);
  failures = omega (arith, c.in_ok-fetch.ensures.source.read_faults, c.bytes.invariant.failures);
  live = c.in_ok-fetch.ensures.source.may_read;
  still = λ e. c.in_ok-fetch.ensures.source.still (c.bytes.invariant.end_same ∙ e) ∙ c.bytes.invariant.still e;
  size = omega (arith, has.1, c.bytes.invariant.size, c.bytes.invariant.place);
  sink_same = c.in_ok-fetch.ensures.same_sink ∙ c.bytes.invariant.sink_same;
  put = g.met.K.Sink.wrote_more _ _ _ _ _ c.bytes.invariant.put c.in_ok-fetch.ensures.put.sink;
  write_faults = omega (arith, c.in_ok-fetch.ensures.put.write_faults, c.bytes.invariant.write_faults);
  may_write = c.in_ok-fetch.ensures.put.may_write;
  end_same = has.2 ∙ c.bytes.invariant.end_same;
}
  where
    M : Machine
    M = g.M.Machine.machine c.args.machine.now

    has : IsThere c.bytes.reading c.fetch.new.reading c.bytes.next true
    has = subst (IsThere c.bytes.reading c.fetch.new.reading c.bytes.next) c.if-not-branch.false c.in_ok-fetch.ensures.there

    going : 1 ≤ c.bytes.len → M.goes_on c.bytes.state ≡ true
    going some = elim c.else-len-gt0.branch [
      | else-len-gt0-via-then-len-gt0+else-not-goes_on w ↦ sym w.goes_on.ensures ∙ w.if-not-goes_on.false
      | else-len-gt0-via-else-len-gt0 w ↦ absurd (omega (arith, some, w.if-len-gt0.false))
    ]

    stepped : c.step-state.result ≡ M.next c.bytes.state (get_or c.fetch.new.reading.window.bytes (c.args.place.at + c.bytes.len) 0)
    stepped = c.step-state.ensures.state ∙ ap (M.next c.bytes.state) (c.byte.ensures.value ∙ ap (λ i. get_or c.fetch.new.reading.window.bytes i 0) c.bytes.invariant.place)

    pushed : c.push.new.self.states ≡ c.bytes.path.states ++ c.step-state.result ∷ []
    pushed = c.push.ensures ∙ ap (λ t. t ++ c.step-state.result ∷ []) c.in_ok-fetch.ensures.states

pub returns-in_err-fetch : goal.returns-in_err-fetch
returns-in_err-fetch g c = record {
  same = grind (arith, common_steps);
  same_sink = grind (arith, common_steps);
  put = (let p = err_from_is_err_and c.from_residual.result c.from_residual.ensures.1 in
      rw (p.1, p.2) (record {
        sink = g.met.K.Sink.wrote_more _ _ _ _ _ c.bytes.invariant.put c.in_err-fetch.ensures.put.sink;
        write_faults = omega (arith, c.in_err-fetch.ensures.put.write_faults, c.bytes.invariant.write_faults);
        may_write = tt;
      }));
  took = Grow.took_more g.S.Source.gave _ _ _ _ _ _ g.met.S.Source.gave_more c.bytes.invariant.took c.in_err-fetch.ensures.took;
  looked = grind (arith, common_steps);
  unmet = grind (arith, common_steps);
  source = (let p = err_from_is_err_and c.from_residual.result c.from_residual.ensures.1 in
      rw (p.1, p.2) (record {
        ends = omega (arith, c.in_err-fetch.ensures.source.ends, c.bytes.invariant.ends, ap (λ b. end_step b c.fetch.new.reading.at_end) c.bytes.invariant.end_same);
        read_faults = omega (arith, c.in_err-fetch.ensures.source.read_faults, c.bytes.invariant.failures);
        few_reads = c.in_err-fetch.ensures.source.few_reads;
        may_read = tt;
        still = λ e. c.in_err-fetch.ensures.source.still (c.bytes.invariant.end_same ∙ e) ∙ c.bytes.invariant.still e;
        not_failed = c.in_err-fetch.ensures.source.not_failed;
        not_stack = c.in_err-fetch.ensures.source.not_stack;
      }));
  inside = grind (arith, common_steps);
  some = grind (arith, common_steps);
  known = grind (arith, common_steps);
  too_many = grind (arith, common_steps);
  limit = (let p = err_from_is_err_and c.from_residual.result c.from_residual.ensures.1 in
      rw (p.1, p.2) (fetch_refused _ c.args.place g.S.Source.gave _ _ _ _ c.bytes.reading _ c.bytes.invariant.took c.in_err-fetch.ensures.took _ c.bytes.next c.bytes.len c.bytes.invariant.end_same c.bytes.invariant.place c.bytes.invariant.size
      c.in_err-fetch.ensures.wanted (λ here reading used. grind (arith, common_steps)) (λ less. c.in_err-fetch.ensures.short less)));
}

pub returns-then-not-branch : goal.returns-then-not-branch
returns-then-not-branch g c = record {
  same = grind (arith, common_steps);
  same_sink = grind (arith, common_steps);
  put = record {
    sink = g.met.K.Sink.wrote_more _ _ _ _ _ c.bytes.invariant.put c.in_ok-fetch.ensures.put.sink;
    write_faults = omega (arith, c.in_ok-fetch.ensures.put.write_faults, c.bytes.invariant.write_faults);
    may_write = c.in_ok-fetch.ensures.put.may_write;
  };
  took = Grow.took_more g.S.Source.gave _ _ _ _ _ _ g.met.S.Source.gave_more c.bytes.invariant.took c.in_ok-fetch.ensures.took;
  looked = grind (arith, common_steps);
  unmet = grind (arith, common_steps);
  source = record {
    ends = omega (arith, c.in_ok-fetch.ensures.source.ends, c.bytes.invariant.ends, ap (λ b. end_step b c.fetch.new.reading.at_end) c.bytes.invariant.end_same);
    read_faults = omega (arith, c.in_ok-fetch.ensures.source.read_faults, c.bytes.invariant.failures);
    few_reads = c.in_ok-fetch.ensures.source.few_reads;
    may_read = c.in_ok-fetch.ensures.source.may_read;
    still = λ e. c.in_ok-fetch.ensures.source.still (c.bytes.invariant.end_same ∙ e) ∙ c.bytes.invariant.still e;
    not_failed = λ e. cc;
    not_stack = λ e. cc;
  };
  inside = grind (arith, common_steps);
  some = grind (arith, common_steps);
  known = grind (arith, common_steps);
  too_many = grind (arith, common_steps);
  limit = ended _ ⊤ c.args.place g.S.Source.gave _ _ _ _ (Grow.took_more g.S.Source.gave _ _ _ _ _ _ g.met.S.Source.gave_more c.bytes.invariant.took c.in_ok-fetch.ensures.took) _ has.2;
}
  where
    has : IsThere c.bytes.reading c.fetch.new.reading c.bytes.next false
    has = subst (IsThere c.bytes.reading c.fetch.new.reading c.bytes.next) c.if-not-branch.true c.in_ok-fetch.ensures.there
