use Rattle.std.proofs.lemmas.Grind.{common_steps}
use Rattle.std.proofs.Common.{◌≡◌, ℕ, ◌≤◌, List, ◌++◌, length, take, Err, sym, ap, ◌∙◌, arith}
use Rattle.lex_semantics.specs.Machine.{Machine}
use Rattle.lexscan.specs.TurnInvariants.{TurnInvariant}
use Rattle.lexscan_window.specs.declared.state.State.{State}
use Rattle.lexscan_window.specs.declared.error.RunError.TheVariants.{TooManyReads}
use Rattle.lexscan.proofs.Pushing as Push
use Rattle.lexscan.proofs.scan.Scan.attempt.Goals as goal

pub returns-in-TooManyReads : goal.returns-in-TooManyReads
returns-in-TooManyReads g c = record {
  same = grind (arith, common_steps);
  attempts = (let M = g.M.Machine.machine c.args.machine.now in
      let old : State = c.args.self.now.state in
      let mid : State = c.turn.new.self.state in
      let new : State = c.go_back_to.new.state in
      let now = c.in-Err.ensures in
      let m = rw c.in-TooManyReads.is at now.goes_on in
      let many = now.too_many (ap Err c.in-TooManyReads.is) in
      let back = c.go_back_to.ensures in
      let reading = back.at_end ∙ many.1 in
      let stack : new.acting.stack ≡ old.acting.stack = back.stack ∙ c.copy_from.ensures in
      let kept : new.reading.window.bytes ≡ take (length old.reading.window.bytes) mid.reading.window.bytes = back.held ∙ ap (λ k. take k mid.reading.window.bytes) c.len-held.ensures in (
        m.0,
        m.1,
        m.2,
        m.3,
        λ e. (let k = m.4 e in (k.0, back.at_end ∙ k.1)),
        (
          m.5.0 (λ p. cc, λ p. cc),
          back.ended,
          reading,
          back.taken,
          λ n given out h. (let refusal = m.5.1 n given out h in (
            Push.stands_again M n given m.0 out (out ++ m.1) old mid new h m.4 refusal many.1 back.failed back.place stack c.requires.going.going back.ended reading kept back.taken,
            Push.asks_more M n given m.0 out (out ++ m.1) old mid new h m.4 refusal many.1,
            sym refusal.taken ∙ many.0 ∙ now.counts.max_reads,
          )),
        ),
      ));
  ends = grind (arith, common_steps);
  read_faults = grind (arith, common_steps);
  write_faults = grind (arith, common_steps);
  max_reads = grind (arith, common_steps);
  handed_on = grind (arith, common_steps);
  too_many = grind (arith, common_steps);
  refused = grind (arith, common_steps);
  next = grind (arith, common_steps);
  kept = record {
    condition = grind (arith, common_steps);
    inside = Push.certain_le new.place.at (length new.reading.window.bytes) (λ denied. c.requires.reachable (λ n given out h. denied (inside n given out h)));
    stack = grind (arith, common_steps);
    marks = grind (arith, common_steps);
  };
}
  where
    M : Machine
    M = g.M.Machine.machine c.args.machine.now

    old : State
    old = c.args.self.now.state

    mid : State
    mid = c.turn.new.self.state

    new : State
    new = c.go_back_to.new.state

    inside : (n : ℕ) (given out : List ℕ) → TurnInvariant M n given out old → new.place.at ≤ length new.reading.window.bytes
    inside n given out h =
        let now = c.in-Err.ensures in
        let m = rw c.in-TooManyReads.is at now.goes_on in
        let many = now.too_many (ap Err c.in-TooManyReads.is) in
        let back = c.go_back_to.ensures in
        let kept : new.reading.window.bytes ≡ take (length old.reading.window.bytes) mid.reading.window.bytes = back.held ∙ ap (λ k. take k mid.reading.window.bytes) c.len-held.ensures in
        let same = Push.same_bytes M n given m.0 out (out ++ m.1) old mid new h m.4 (m.5.1 n given out h) many.1 kept in
        omega (arith, ap length same, ap (λ p. p.at) back.place, c.requires.ready.kept.inside)

pub returns-in_default : goal.returns-in_default
returns-in_default g c = record {
  same = grind (arith, common_steps);
  attempts = grind (arith, common_steps);
  ends = grind (arith, common_steps);
  read_faults = grind (arith, common_steps);
  write_faults = grind (arith, common_steps);
  max_reads = grind (arith, common_steps);
  handed_on = grind (arith, common_steps);
  too_many = λ is. (let e : c.in-Err.e ≡ TooManyReads = cc in c.in_default.not-TooManyReads e);
  refused = grind (arith, common_steps);
  next = Push.certain_true c.turn.new.self.state.failed (λ denied. c.requires.reachable (λ n given out h. denied (let refusal = c.in-Err.ensures.goes_on.5.1 n given out h in refusal.failed)));
  kept = grind (arith, common_steps);
}
