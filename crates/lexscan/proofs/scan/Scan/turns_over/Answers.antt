use Rattle.std.proofs.lemmas.Grind.{common_steps}
use Rattle.std.proofs.Common.{◌≡◌, ℕ, ◌+◌, ◌<◌, ◌≤◌, false, List, [], ◌++◌, refl, sym, ap, subst, ◌∙◌, append_assoc, append-nil, arith}
use Rattle.std.proofs.lemmas.Result.{err_from_is_err_and}
use Rattle.lex_semantics.specs.Machine.{Machine}
use Rattle.lexscan_window.specs.Reads.{end_step}
use Rattle.lexscan.specs.TurnInvariants.{TurnInvariant}
use Rattle.lexscan_window.specs.declared.state.State.{State}
use Rattle.lexscan.proofs.Lasting as Last
use Rattle.lexscan.proofs.Pushing as Push
use Rattle.lexscan.proofs.scan.Scan.turns_over.Goals as goal

pub turns-init : goal.turns-init
turns-init g c =
    let none : end_step false c.args.self.now.state.reading.at_end ≡ 0 = ap (end_step false) c.requires.paused.reading in
    record {
      same = record { source = refl; sink = refl };
      going = c.requires.paused.going;
      next = c.requires.ready;
      max_reads = refl;
      reachable = c.requires.paused.reachable;
      onward = record { turns = 0; got = []; put = []; source = g.met.S.Source.gave_none _; sink = g.met.K.Sink.wrote_none _; made = Push.made_none (g.M.Machine.machine c.args.machine.now) c.args.self.now.state };
      ends = omega (arith, none);
      read_faults = refl;
      write_faults = refl;
    }

pub returns-in_err-most-clause-ran : goal.returns-in_err-most-clause-ran
returns-in_err-most-clause-ran g c =
    let M = g.M.Machine.machine c.args.machine.now in
    let on = c.turns.invariant.onward in
    let m = c.in_err-most.ensures.goes_on in
    let p = err_from_is_err_and c.from_residual.result c.from_residual.ensures.1 in
    rw (p.1, p.2) (
      on.got ++ m.0,
      on.put ++ m.1,
      c.go_further_unless_behind.new.ends.intake.source.now,
      g.met.S.Source.gave_more _ _ _ _ _ on.source m.2,
      g.met.K.Sink.wrote_more _ _ _ _ _ on.sink m.3,
      (
        m.5.0 + on.turns,
        refl,
        on.got ++ m.5.1,
        m.5.2,
        ap (λ l. on.got ++ l) m.5.3 ∙ sym (append_assoc on.got m.5.1 m.5.2),
        Push.fell_after M c.args.self.now.state c.turns.self.state c.go_further_unless_behind.new.self.state c.in_err-most.field-0.0 on.turns m.5.0 on.got on.put m.5.1 m.5.2 m.1 on.made m.5.4,
      ),
    )

pub returns-in_err-most-clause-left : goal.returns-in_err-most-clause-left
returns-in_err-most-clause-left g c = record {
  max_reads = grind (arith, common_steps);
  too_many = grind (arith, common_steps);
  refused = grind (arith, common_steps);
  failed = (let inv = c.turns.invariant in
      let m = c.in_err-most.ensures.goes_on in
      let p = err_from_is_err_and c.from_residual.result c.from_residual.ensures.1 in
      rw p.1 (Push.certain_true c.go_further_unless_behind.new.self.state.failed (λ denied. inv.reachable (λ n given out h. denied (let refusal = m.5.4 n given out h in refusal.failed)))));
  kept = grind (arith, common_steps);
}

pub attempt-requires-clause-reachable : goal.attempt-requires-clause-reachable
attempt-requires-clause-reachable g c =
    let k = c.in_ok-most.ensures.goes_on in
    Push.standing_on (g.M.Machine.machine c.args.machine.now) c.turns.self.state c.go_further_unless_behind.new.self.state k.5.0 k.0 k.1 c.turns.invariant.reachable k.5.1

pub returns-in_err-attempt-clause-ran : goal.returns-in_err-attempt-clause-ran
returns-in_err-attempt-clause-ran g c =
    let M = g.M.Machine.machine c.args.machine.now in
    let k = c.in_ok-most.ensures.goes_on in
    let on = Push.onward_more M g.S.Source.gave g.K.Sink.wrote g.met.S.Source.gave_more g.met.K.Sink.wrote_more _ _ _ _ _ _ c.args.self.now.state c.turns.self.state c.go_further_unless_behind.new.self.state k.5.0 k.0 k.1 c.turns.invariant.onward k.2 k.3 k.5.1 in
    let m = c.in_err-attempt.ensures.attempts in
    let p = err_from_is_err_and c.from_residual-in_err-attempt.result c.from_residual-in_err-attempt.ensures.1 in
    rw (p.1, p.2) (
      on.got ++ m.0,
      on.put ++ m.1,
      c.attempt.new.ends.intake.source.now,
      g.met.S.Source.gave_more _ _ _ _ _ on.source m.2,
      g.met.K.Sink.wrote_more _ _ _ _ _ on.sink m.3,
      (
        on.turns,
        refl,
        on.got,
        m.0,
        refl,
        Push.fell_at M c.args.self.now.state c.go_further_unless_behind.new.self.state c.attempt.new.self.state c.in_err-attempt.field-0.0 on.turns on.got on.put m.0 m.1 on.made m.5.1,
      ),
    )

pub returns-in_err-attempt-clause-counts : goal.returns-in_err-attempt-clause-counts
returns-in_err-attempt-clause-counts g c = record {
  ends = (
      let inv = c.turns.invariant in
      let first = c.in_ok-most.ensures in
      let ends : g.S.Source.ends c.go_further_unless_behind.new.ends.intake.source.now ≡ g.S.Source.ends c.args.ends.now.intake.source.now + end_step false c.go_further_unless_behind.new.self.state.reading.at_end =
      first.ends ∙ inv.ends ∙ ap (λ b. g.S.Source.ends c.args.ends.now.intake.source.now + end_step false b) (sym first.at_end) in
      let now = c.in_err-attempt.ensures in
      let m = now.attempts in
      omega (arith, now.ends, ends, Last.answered_once c.go_further_unless_behind.new.self.state.reading.at_end c.attempt.new.self.state.reading.at_end (λ e. (m.4 e).1))
      );
  read_faults = grind (arith, common_steps);
  write_faults = grind (arith, common_steps);
}

pub returns-in-None-clause-ran : goal.returns-in-None-clause-ran
returns-in-None-clause-ran g c =
    let M = g.M.Machine.machine c.args.machine.now in
    let inv = c.turns.invariant in
    let first = c.in_ok-most.ensures in
    let k = first.goes_on in
    let on = Push.onward_more M g.S.Source.gave g.K.Sink.wrote g.met.S.Source.gave_more g.met.K.Sink.wrote_more _ _ _ _ _ _ c.args.self.now.state c.turns.self.state c.go_further_unless_behind.new.self.state k.5.0 k.0 k.1 inv.onward k.2 k.3 k.5.1 in
    let now = c.in_ok-attempt.ensures in
    let m = rw c.in-None.is at now.attempts in
    let nothing : on.put ++ m.1 ≡ on.put = ap (λ l. on.put ++ l) m.5.0 ∙ append-nil on.put in (
      on.got,
      on.put,
      c.go_further_unless_behind.new.ends.intake.source.now,
      on.source,
      subst (λ l. g.K.Sink.wrote c.args.ends.now.outlet.sink.now l c.attempt.new.ends.outlet.sink.now) nothing (g.met.K.Sink.wrote_more _ _ _ _ _ on.sink m.3),
      record {
        turns = on.turns;
        more = m.0;
        source = m.2;
        going = m.5.1;
        at_end = m.5.2;
        made = λ n given out h. (m.5.4 (on.turns + n) (given ++ on.got) (out ++ on.put) (on.made n given out h)).0;
        asks = λ n given out h. (let s = m.5.4 (on.turns + n) (given ++ on.got) (out ++ on.put) (on.made n given out h) in (s.1, s.2 ∙ first.max_reads ∙ inv.max_reads));
      },
    )

pub returns-in-None-clause-counts : goal.returns-in-None-clause-counts
returns-in-None-clause-counts g c = record {
  ends = (
      let inv = c.turns.invariant in
      let first = c.in_ok-most.ensures in
      let ends : g.S.Source.ends c.go_further_unless_behind.new.ends.intake.source.now ≡ g.S.Source.ends c.args.ends.now.intake.source.now + end_step false c.go_further_unless_behind.new.self.state.reading.at_end =
      first.ends ∙ inv.ends ∙ ap (λ b. g.S.Source.ends c.args.ends.now.intake.source.now + end_step false b) (sym first.at_end) in
      let now = c.in_ok-attempt.ensures in
      let m = rw c.in-None.is at now.attempts in
      omega (arith, now.ends, ends, Last.answered_once c.go_further_unless_behind.new.self.state.reading.at_end c.attempt.new.self.state.reading.at_end (λ e. (m.4 e).1))
      );
  read_faults = grind (arith, common_steps);
  write_faults = grind (arith, common_steps);
}

pub returns-in-Some-Ended-clause-ran : goal.returns-in-Some-Ended-clause-ran
returns-in-Some-Ended-clause-ran g c =
    let M = g.M.Machine.machine c.args.machine.now in
    let k = c.in_ok-most.ensures.goes_on in
    let on = Push.onward_more M g.S.Source.gave g.K.Sink.wrote g.met.S.Source.gave_more g.met.K.Sink.wrote_more _ _ _ _ _ _ c.args.self.now.state c.turns.self.state c.go_further_unless_behind.new.self.state k.5.0 k.0 k.1 c.turns.invariant.onward k.2 k.3 k.5.1 in
    let m = rw (c.in-Some-Ended.is, c.in-Some-Ended.field-0-is) at c.in_ok-attempt.ensures.attempts in
    let one = Push.made_one M c.go_further_unless_behind.new.self.state c.attempt.new.self.state m.0 m.1 m.5.1 in
    let last = Push.onward_more M g.S.Source.gave g.K.Sink.wrote g.met.S.Source.gave_more g.met.K.Sink.wrote_more _ _ _ _ _ _ c.args.self.now.state c.go_further_unless_behind.new.self.state c.attempt.new.self.state 1 m.0 m.1 on m.2 m.3 one in (
      last.got,
      last.put,
      c.attempt.new.ends.intake.source.now,
      last.source,
      last.sink,
      (last.turns, refl, m.5.0, last.made),
    )

pub turns-smaller : goal.turns-smaller
turns-smaller g c =
    let inv = c.turns.invariant in
    Push.certain_less (Last.left_over new.reading.max_reads new) (Last.left_over old.reading.max_reads old) (λ denied. inv.reachable (λ n given out h. denied (falls n given out h)))
  where
    M : Machine
    M = g.M.Machine.machine c.args.machine.now

    old : State
    old = c.turns.self.state

    mid : State
    mid = c.go_further_unless_behind.new.self.state

    new : State
    new = c.attempt.new.self.state

    less_than : (a b d : ℕ) → a < b → b ≤ d → a < d
    less_than a b d p q = omega (arith, p, q)

    falls : (n : ℕ) (given out : List ℕ) → TurnInvariant M n given out old → Last.left_over new.reading.max_reads new < Last.left_over old.reading.max_reads old
    falls n given out h =
        let first = c.in_ok-most.ensures in
        let k = first.goes_on in
        let now = c.in_ok-attempt.ensures in
        let m = rw (c.in-Some-Went.is, c.in-Some-Went.field-0-is) at now.attempts in
        let here : TurnInvariant M (k.5.0 + n) (given ++ k.0) (out ++ k.1) mid = k.5.1 n given out h in
        let most : ℕ = mid.reading.max_reads in
        let few : mid.reading.taken ≤ most = omega (arith, mid.reading.few_reads) in
        let few' : new.reading.taken ≤ most = omega (arith, new.reading.few_reads, now.max_reads) in
        let lower : Last.left_over most new < Last.left_over most mid =
        Last.turn_falls M (g.M.Machine.laws c.args.machine.now) most (k.5.0 + n) (given ++ k.0) m.0 (out ++ k.1) m.1 mid new here (m.5.1 (k.5.0 + n) (given ++ k.0) (out ++ k.1) here) m.4 m.5.0 few few' in
        let less : Last.left_over most mid ≤ Last.left_over most old = Last.no_more_left most old mid (first.no_earlier (Last.all_taken M n given out old h)) in
        subst (λ l. Last.left_over l new < Last.left_over old.reading.max_reads old) (sym now.max_reads)
        (subst (λ l. Last.left_over most new < Last.left_over l old) first.max_reads (less_than (Last.left_over most new) (Last.left_over most mid) (Last.left_over most old) lower less))

pub turns-preserved : goal.turns-preserved
turns-preserved g c =
    let M = g.M.Machine.machine c.args.machine.now in
    let inv = c.turns.invariant in
    let first = c.in_ok-most.ensures in
    let k = first.goes_on in
    let mid : State = c.go_further_unless_behind.new.self.state in
    let new : State = c.attempt.new.self.state in
    let on = Push.onward_more M g.S.Source.gave g.K.Sink.wrote g.met.S.Source.gave_more g.met.K.Sink.wrote_more _ _ _ _ _ _ c.args.self.now.state c.turns.self.state mid k.5.0 k.0 k.1 inv.onward k.2 k.3 k.5.1 in
    let reachable = Push.standing_on M c.turns.self.state mid k.5.0 k.0 k.1 inv.reachable k.5.1 in
    let ends : g.S.Source.ends c.go_further_unless_behind.new.ends.intake.source.now ≡ g.S.Source.ends c.args.ends.now.intake.source.now + end_step false mid.reading.at_end =
    first.ends ∙ inv.ends ∙ ap (λ b. g.S.Source.ends c.args.ends.now.intake.source.now + end_step false b) (sym first.at_end) in
    let now = c.in_ok-attempt.ensures in
    let m = rw (c.in-Some-Went.is, c.in-Some-Went.field-0-is) at now.attempts in
    let next = rw c.in-Some-Went.is at now.next in
    let one = Push.made_one M mid new m.0 m.1 m.5.1 in
    let works = Push.made_working M mid new 1 m.0 m.1 reachable one in
    record {
      same = record { source = now.same.source ∙ first.same.source ∙ inv.same.source; sink = now.same.sink ∙ first.same.sink ∙ inv.same.sink };
      going = record { working = works; going = m.5.0 };
      next = next;
      max_reads = now.max_reads ∙ first.max_reads ∙ inv.max_reads;
      reachable = Push.standing_on M mid new 1 m.0 m.1 reachable one;
      onward = Push.onward_more M g.S.Source.gave g.K.Sink.wrote g.met.S.Source.gave_more g.met.K.Sink.wrote_more _ _ _ _ _ _ c.args.self.now.state mid new 1 m.0 m.1 on m.2 m.3 one;
      ends = omega (arith, now.ends, ends, Last.answered_once mid.reading.at_end new.reading.at_end (λ e. (m.4 e).1));
      read_faults = omega (arith, now.read_faults, first.read_faults, inv.read_faults);
      write_faults = omega (arith, now.write_faults, first.write_faults, inv.write_faults);
    }
