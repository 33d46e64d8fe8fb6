use Rattle.std.proofs.lemmas.Grind.{common_steps}
use Rattle.std.proofs.Common.{◌≡◌, ℕ, false, suc, ◌+◌, ◌<◌, ◌++◌, ◌≤◌, Err, sym, ap, subst, ◌∙◌, append_assoc, arith, length}
use Rattle.std.proofs.lemmas.Result.{err_from_is_err_and}
use Rattle.lexscan_window.specs.Reads.{end_step}
use Rattle.std.specs.Prelude.{nat_lt}
use Rattle.lex_semantics.specs.Machine.{rules_of_machine}
use Rattle.lexscan.specs.Runs.{RunStopped}
use Rattle.lexscan_window.specs.declared.error.RunError.{RunError}
use Rattle.lexscan_window.specs.declared.error.RunError.TheVariants.{Write, TooManyReads}
use Rattle.lexscan.proofs.Lasting as Last
use Rattle.lexscan.proofs.whole.run_without_reject.Goals as goal

no_write : (e : RunError) → e ≡ Write → e ≡ TooManyReads → ⊥
no_write e is not = no (sym is ∙ not)
  where
    no : Write ≡ TooManyReads → ⊥
    no p = cc

pub returns-in_err-most : goal.returns-in_err-most
returns-in_err-most g c = record {
  same = grind (arith, common_steps);
  ran = (
      let M = g.M.Machine.machine c.args.machine.now in
      let inv = c.turns.invariant in
      let h = inv.running in
      let now = c.in_err-most.ensures in
      let m = now.goes_on in
      let refusal = m.5.4 h.turns h.given h.out h.invariant in
      let all : (h.given ++ m.5.1) ++ m.5.2 ≡ h.given ++ m.0 = append_assoc h.given m.5.1 m.5.2 ∙ ap (λ l. h.given ++ l) (sym m.5.3) in
      let ended : g.S.Source.ends c.go_on.new.ends.intake.source.now ≡ g.S.Source.ends c.args.ends.now.intake.source.now + end_step false c.go_on.new.self.state.reading.at_end =
      now.ends ∙ inv.ends ∙ ap (λ b. g.S.Source.ends c.args.ends.now.intake.source.now + end_step false b) (sym now.at_end) in
      let p = err_from_is_err_and c.from_residual.result c.from_residual.ensures.1 in
      rw (p.1, p.2) (
        h.given ++ m.0,
        h.out ++ m.1,
        g.met.S.Source.gave_more _ _ _ _ _ h.source m.2,
        g.met.K.Sink.wrote_more _ _ _ _ _ h.sink m.3,
        subst (λ l. RunStopped (rules_of_machine M) l (h.out ++ m.1) (nat_lt (g.S.Source.ends c.args.ends.now.intake.source.now) (g.S.Source.ends c.go_on.new.ends.intake.source.now)) c.args.scan.now.state.reading.max_reads c.in_err-most.field-0.0)
            all
            (Last.ran_into M (m.5.0 + h.turns) _ _ _ (h.given ++ m.5.1) m.5.2 (h.out ++ m.1) c.go_on.new.self.state c.in_err-most.field-0.0
            ended
            (λ is. absurd (no_write c.in_err-most.field-0.0 now.refusals is))
            refusal),
        Last.few_made _ c.go_on.new.self.state _ 0 _ _ _ _ _ (refusal.taken ∙ ap length all) ended (omega (arith, now.read_faults)) inv.read_faults (omega (arith, c.go_on.new.self.state.reading.few_reads)) (now.max_reads ∙ inv.max_reads),
      )
      );
  counts = grind (arith, common_steps);
  handed_on = grind (arith, common_steps);
}

pub returns-in_err-status : goal.returns-in_err-status
returns-in_err-status g c = record {
  same = grind (arith, common_steps);
  ran = (
      let inv = c.turns.invariant in
      let first = c.in_ok-most.ensures in
      let k = first.goes_on in
      let h = Last.running_further (g.M.Machine.machine c.args.machine.now) g.S.Source.gave g.K.Sink.wrote _ _ _ _ _ _ c.turns.scan.state c.go_on.new.self.state k.5.0 k.0 k.1 g.met.S.Source.gave_more g.met.K.Sink.wrote_more inv.running k.2 k.3
      (k.5.1 inv.running.turns inv.running.given inv.running.out inv.running.invariant) in
      let ends : g.S.Source.ends c.go_on.new.ends.intake.source.now ≡ g.S.Source.ends c.args.ends.now.intake.source.now + end_step false c.go_on.new.self.state.reading.at_end =
      first.ends ∙ inv.ends ∙ ap (λ b. g.S.Source.ends c.args.ends.now.intake.source.now + end_step false b) (sym first.at_end) in
      let now = c.in_err-status.ensures in
      let m = now.goes_on in
      let refusal = m.5.1 h.turns h.given h.out h.invariant in
      let ended : g.S.Source.ends c.turn_for_run.new.ends.intake.source.now ≡ g.S.Source.ends c.args.ends.now.intake.source.now + end_step false c.turn_for_run.new.self.state.reading.at_end =
      omega (arith, now.counts.ends, ends, Last.answered_once c.go_on.new.self.state.reading.at_end c.turn_for_run.new.self.state.reading.at_end (λ e. (m.4 e).1)) in
      let p = err_from_is_err_and c.from_residual-in_err-status.result c.from_residual-in_err-status.ensures.1 in
      rw (p.1, p.2) (
        h.given ++ m.0,
        h.out ++ m.1,
        g.met.S.Source.gave_more _ _ _ _ _ h.source m.2,
        g.met.K.Sink.wrote_more _ _ _ _ _ h.sink m.3,
        Last.ran_into _ h.turns _ _ _ h.given m.0 (h.out ++ m.1) c.turn_for_run.new.self.state c.in_err-status.field-0.0
            ended
            (λ is. (let many = now.too_many (ap Err is) in (many.0 ∙ now.counts.max_reads ∙ first.max_reads ∙ inv.max_reads, many.1)))
            refusal,
        Last.few_made _ c.turn_for_run.new.self.state _ _ _ _ _ _ _ refusal.taken ended now.counts.read_faults (first.read_faults ∙ inv.read_faults) now.counts.few_reads (now.counts.max_reads ∙ first.max_reads ∙ inv.max_reads),
      )
      );
  counts = grind (arith, common_steps);
  handed_on = grind (arith, common_steps);
}

pub returns-in-Ended : goal.returns-in-Ended
returns-in-Ended g c = record {
  same = grind (arith, common_steps);
  ran = (
      let inv = c.turns.invariant in
      let first = c.in_ok-most.ensures in
      let k = first.goes_on in
      let h = Last.running_further (g.M.Machine.machine c.args.machine.now) g.S.Source.gave g.K.Sink.wrote _ _ _ _ _ _ c.turns.scan.state c.go_on.new.self.state k.5.0 k.0 k.1 g.met.S.Source.gave_more g.met.K.Sink.wrote_more inv.running k.2 k.3
      (k.5.1 inv.running.turns inv.running.given inv.running.out inv.running.invariant) in
      let ends : g.S.Source.ends c.go_on.new.ends.intake.source.now ≡ g.S.Source.ends c.args.ends.now.intake.source.now + end_step false c.go_on.new.self.state.reading.at_end =
      first.ends ∙ inv.ends ∙ ap (λ b. g.S.Source.ends c.args.ends.now.intake.source.now + end_step false b) (sym first.at_end) in
      let now = c.in_ok-status.ensures in
      let m = rw c.in-Ended.is at now.goes_on in
      let after = m.5.1 h.turns h.given h.out h.invariant in
      let ended : g.S.Source.ends c.turn_for_run.new.ends.intake.source.now ≡ g.S.Source.ends c.args.ends.now.intake.source.now + end_step false c.turn_for_run.new.self.state.reading.at_end =
      omega (arith, now.counts.ends, ends, Last.answered_once c.go_on.new.self.state.reading.at_end c.turn_for_run.new.self.state.reading.at_end (λ e. (m.4 e).1)) in (
        h.given ++ m.0,
        h.out ++ m.1,
        g.met.S.Source.gave_more _ _ _ _ _ h.source m.2,
        g.met.K.Sink.wrote_more _ _ _ _ _ h.sink m.3,
        Last.ran_to _ (suc h.turns) c.in-Ended.status _ _ (h.given ++ m.0) (h.out ++ m.1) c.turn_for_run.new.self.state
            ended
            m.5.0 after,
        Last.few_made _ c.turn_for_run.new.self.state _ _ _ _ _ _ _ after.taken ended now.counts.read_faults (first.read_faults ∙ inv.read_faults) now.counts.few_reads (now.counts.max_reads ∙ first.max_reads ∙ inv.max_reads),
      )
      );
  counts = grind (arith, common_steps);
  handed_on = grind (arith, common_steps);
}

pub turns-smaller : goal.turns-smaller
turns-smaller g c =
    let inv = c.turns.invariant in
    let first = c.in_ok-most.ensures in
    let k = first.goes_on in
    let h = Last.running_further (g.M.Machine.machine c.args.machine.now) g.S.Source.gave g.K.Sink.wrote _ _ _ _ _ _ c.turns.scan.state c.go_on.new.self.state k.5.0 k.0 k.1 g.met.S.Source.gave_more g.met.K.Sink.wrote_more inv.running k.2 k.3
    (k.5.1 inv.running.turns inv.running.given inv.running.out inv.running.invariant) in
    let ends : g.S.Source.ends c.go_on.new.ends.intake.source.now ≡ g.S.Source.ends c.args.ends.now.intake.source.now + end_step false c.go_on.new.self.state.reading.at_end =
    first.ends ∙ inv.ends ∙ ap (λ b. g.S.Source.ends c.args.ends.now.intake.source.now + end_step false b) (sym first.at_end) in
    let now = c.in_ok-status.ensures in
    let m = rw c.in-Went.is at now.goes_on in
    let most : ℕ = c.go_on.new.self.state.reading.max_reads in
    let few : c.go_on.new.self.state.reading.taken ≤ most = omega (arith, c.go_on.new.self.state.reading.few_reads) in
    let few' : c.turn_for_run.new.self.state.reading.taken ≤ most = omega (arith, c.turn_for_run.new.self.state.reading.few_reads, now.counts.max_reads) in
    let falls : Last.left_over most c.turn_for_run.new.self.state < Last.left_over most c.go_on.new.self.state =
    Last.turn_falls (g.M.Machine.machine c.args.machine.now) (g.M.Machine.laws c.args.machine.now) most h.turns h.given m.0 h.out m.1 c.go_on.new.self.state c.turn_for_run.new.self.state h.invariant (m.5.1 h.turns h.given h.out h.invariant) m.4 m.5.0 few few' in
    let less : Last.left_over most c.go_on.new.self.state ≤ Last.left_over most c.turns.scan.state = Last.no_more_left most c.turns.scan.state c.go_on.new.self.state (first.no_earlier (Last.all_taken _ _ _ _ _ inv.running.invariant)) in
    subst (λ k. Last.left_over k c.turn_for_run.new.self.state < Last.left_over c.turns.scan.state.reading.max_reads c.turns.scan.state) (sym now.counts.max_reads)
    (subst (λ k. Last.left_over most c.turn_for_run.new.self.state < Last.left_over k c.turns.scan.state) first.max_reads (less_than (Last.left_over most c.turn_for_run.new.self.state) (Last.left_over most c.go_on.new.self.state) (Last.left_over most c.turns.scan.state) falls less))
  where
    less_than : (a b d : ℕ) → a < b → b ≤ d → a < d
    less_than a b d p q = omega (arith, p, q)

pub turns-preserved : goal.turns-preserved
turns-preserved g c =
    let inv = c.turns.invariant in
    let first = c.in_ok-most.ensures in
    let k = first.goes_on in
    let h = Last.running_further (g.M.Machine.machine c.args.machine.now) g.S.Source.gave g.K.Sink.wrote _ _ _ _ _ _ c.turns.scan.state c.go_on.new.self.state k.5.0 k.0 k.1 g.met.S.Source.gave_more g.met.K.Sink.wrote_more inv.running k.2 k.3
    (k.5.1 inv.running.turns inv.running.given inv.running.out inv.running.invariant) in
    let ends : g.S.Source.ends c.go_on.new.ends.intake.source.now ≡ g.S.Source.ends c.args.ends.now.intake.source.now + end_step false c.go_on.new.self.state.reading.at_end =
    first.ends ∙ inv.ends ∙ ap (λ b. g.S.Source.ends c.args.ends.now.intake.source.now + end_step false b) (sym first.at_end) in
    let now = c.in_ok-status.ensures in
    let m = rw c.in-Went.is at now.goes_on in
    let after = m.5.1 h.turns h.given h.out h.invariant in
    record {
      same = record { source = now.same.source ∙ first.same.source ∙ inv.same.source; sink = now.same.sink ∙ first.same.sink ∙ inv.same.sink };
      going = record { working = after.works; going = m.5.0 };
      next = now.next;
      max_reads = now.counts.max_reads ∙ first.max_reads ∙ inv.max_reads;
      running = Last.running_on (g.M.Machine.machine c.args.machine.now) g.S.Source.gave g.K.Sink.wrote _ _ _ _ _ _ c.go_on.new.self.state c.turn_for_run.new.self.state m.0 m.1 g.met.S.Source.gave_more g.met.K.Sink.wrote_more h m.2 m.3 after;
      ends = omega (arith, now.counts.ends, ends, Last.answered_once c.go_on.new.self.state.reading.at_end c.turn_for_run.new.self.state.reading.at_end (λ e. (m.4 e).1));
      read_faults = omega (arith, now.counts.read_faults, first.read_faults, inv.read_faults);
      write_faults = omega (arith, now.counts.write_faults, first.write_faults, inv.write_faults);
    }
