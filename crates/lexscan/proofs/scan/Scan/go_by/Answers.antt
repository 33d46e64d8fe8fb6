use Rattle.std.proofs.lemmas.Grind.{common_steps}
use Rattle.std.proofs.Common.{◌≡◌, ℕ, ◌-◌, ◌≤◌, List, [], ◌++◌, length, take, drop, true, false, refl, sym, ap, ◌∙◌, arith}
use Rattle.std.proofs.lemmas.List.{take-take}
use Rattle.lexscan_window.specs.declared.state.State.{State}
use Rattle.lexscan.proofs.Bursting.{grows}
use Rattle.lexscan.proofs.Furthering as Further
use Rattle.lexscan_matching.proofs.Barrens.{true_burst}
use Rattle.lexscan.proofs.scan.Scan.go_by.Goals as goal

-- the text is made of the bytes held and of those shown
text_made : (text held bytes ahead given ready : List ℕ) (shown : ℕ) → text ≡ bytes ++ take shown ahead → bytes ≡ held → ahead ≡ take shown given → given ≡ ready → text ≡ held ++ take shown ready
text_made text held bytes ahead given ready shown e f g h =
    e ∙ ap (λ l. l ++ take shown ahead) f ∙ ap (λ l. held ++ take shown l) (g ∙ ap (take shown) h) ∙ ap (λ l. held ++ l) (take-take shown shown ready (omega arith))

never : false ≡ true → ⊥
never e = cc

pub returns-then-self : goal.returns-then-self
returns-then-self g c = record {
  same = grind (arith, common_steps);
  goes_on = ([], [], g.met.S.Source.gave_none _, g.met.K.Sink.wrote_none _, λ e. (refl, e), (0, λ n given out h. Further.no_further (g.M.Machine.machine c.args.machine.now) n given out c.args.self.now.state h));
  ends = grind (arith, common_steps);
  read_faults = grind (arith, common_steps);
  write_faults = grind (arith, common_steps);
  refusals = grind (arith, common_steps);
  at_end = grind (arith, common_steps);
  max_reads = grind (arith, common_steps);
  no_earlier = λ _. grind (arith, common_steps);
  going = grind (arith, common_steps);
  working = grind (arith, common_steps);
  next = record {
    may_read = grind (arith, common_steps);
    may_write = grind (arith, common_steps);
    kept = grind (arith, common_steps);
  };
}

pub returns : goal.returns
returns g c = record {
  same = grind (arith, common_steps);
  goes_on = (let went = rw c.if-burst.false at c.burst_from-went.ensures.bursts in
      let old : State = c.args.self.now.state in
      let ready : List ℕ = g.S.Source.ready c.args.ends.now.intake.source.now in
      let few : c.show-shown.result ≤ length ready = omega (arith, c.show-shown.ensures.few, ap length c.ahead.ensures) in
      let made = text_made c.text-text.result.now old.reading.window.bytes c.show-shown.new.self.bytes c.show-shown.new.self.ahead c.ahead.result.now ready c.show-shown.result c.text-text.ensures c.show-shown.ensures.bytes c.show-shown.ensures.ahead c.ahead.ensures in (
        take (c.burst_from-went.result.burst.asked - c.len-held.result) ready,
        went.out,
        c.give.ensures.bytes,
        went.sink,
        λ e. absurd (never (sym c.if-self.false ∙ e)),
        (
          went.turns,
          Further.went_further (g.M.Machine.machine c.args.machine.now) old (record c.advance.new.state { place = record c.advance.new.state.place { at = c.burst_from-went.result.kept } }) c.text-text.result.now ready c.len-held.result c.show-shown.result c.burst_from-went.result.burst.asked c.burst_from-went.result.burst.done c.burst_from-went.result.kept c.burst_from-went.result.burst.condition c.burst_from-went.result.burst.line_start
              c.len-held.ensures made few c.burst_from-went.ensures.held c.burst_from-went.ensures.asked
              (c.advance.ensures.held ∙ Further.accepted c.text-text.result.now old.reading.window.bytes c.show-shown.new.self.bytes c.show-shown.new.self.ahead c.ahead.result.now ready c.len-held.result c.show-shown.result c.burst_from-went.result.burst.asked c.burst_from-went.result.burst.done
              c.len-held.ensures made few c.burst_from-went.ensures.asked c.show-shown.ensures.bytes c.show-shown.ensures.ahead c.ahead.ensures) c.advance.ensures.taken c.if-self.false (c.advance.ensures.at_end ∙ c.if-self.false) refl c.advance.ensures.line_start c.advance.ensures.condition c.advance.ensures.stack c.requires.going.going
              (c.advance.ensures.ended ∙ c.requires.going.going) g.K.Sink.wrote _ _ went (c.advance.ensures.failed ∙ c.requires.going.working),
        ),
      ));
  ends = grind (arith, common_steps);
  read_faults = grind (arith, common_steps);
  write_faults = grind (arith, common_steps);
  refusals = grind (arith, common_steps);
  at_end = grind (arith, common_steps);
  max_reads = grind (arith, common_steps);
  no_earlier = λ all. (let old : State = c.args.self.now.state in
      let ready : List ℕ = g.S.Source.ready c.args.ends.now.intake.source.now in
      let few : c.show-shown.result ≤ length ready = omega (arith, c.show-shown.ensures.few, ap length c.ahead.ensures) in
      let made = text_made c.text-text.result.now old.reading.window.bytes c.show-shown.new.self.bytes c.show-shown.new.self.ahead c.ahead.result.now ready c.show-shown.result c.text-text.ensures c.show-shown.ensures.bytes c.show-shown.ensures.ahead c.ahead.ensures in
      Further.starts_no_earlier (g.M.Machine.machine c.args.machine.now) old (record c.advance.new.state { place = record c.advance.new.state.place { at = c.burst_from-went.result.kept } }) c.text-text.result.now ready c.len-held.result c.show-shown.result c.burst_from-went.result.burst.asked c.burst_from-went.result.burst.done c.burst_from-went.result.kept c.burst_from-went.result.burst.condition c.burst_from-went.result.burst.line_start
      c.len-held.ensures made few c.burst_from-went.ensures.held c.burst_from-went.ensures.asked
      (c.advance.ensures.held ∙ Further.accepted c.text-text.result.now old.reading.window.bytes c.show-shown.new.self.bytes c.show-shown.new.self.ahead c.ahead.result.now ready c.len-held.result c.show-shown.result c.burst_from-went.result.burst.asked c.burst_from-went.result.burst.done
      c.len-held.ensures made few c.burst_from-went.ensures.asked c.show-shown.ensures.bytes c.show-shown.ensures.ahead c.ahead.ensures) c.advance.ensures.taken c.if-self.false (c.advance.ensures.at_end ∙ c.if-self.false) refl c.advance.ensures.line_start c.advance.ensures.condition c.advance.ensures.stack c.requires.going.going
      (c.advance.ensures.ended ∙ c.requires.going.going) g.K.Sink.wrote c.args.ends.now.outlet.sink.now c.args.ends.now.outlet.sink.now all c.burst_from-went.ensures.kept c.burst_from-went.ensures.no_earlier);
  going = grind (arith, common_steps);
  working = grind (arith, common_steps);
  next = record {
    may_read = grind (arith, common_steps);
    may_write = grind (arith, common_steps);
    kept = record {
      condition = grind (arith, common_steps);
      inside = grind (arith, common_steps);
      stack = grind (arith, common_steps);
      marks = λ _. true_burst (g.M.Machine.machine c.args.machine.now) c.args.self.now.state.reading c.advance.new.state.reading c.text-text.result.now c.show-shown.new.self.bytes c.show-shown.new.self.ahead c.ahead.result.now c.len-held.result c.show-shown.result c.burst_from-went.result.burst.asked
          c.burst_from-went.result.burst.done c.args.self.now.memo c.len-held.ensures c.show-shown.ensures.bytes c.show-shown.ensures.ahead c.show-shown.ensures.few c.text-text.ensures c.burst_from-went.ensures.held c.burst_from-went.ensures.asked (omega (arith, c.burst_from-went.ensures.kept)) c.advance.ensures.held
          c.advance.ensures.taken c.if-self.false (c.requires.ready.kept.marks c.requires.going.working);
    };
  };
}

pub returns-then-burst : goal.returns-then-burst
returns-then-burst g c = record {
  same = grind (arith, common_steps);
  goes_on = (let broke = rw c.if-burst.true at c.burst_from-went.ensures.bursts in
      let old : State = c.args.self.now.state in
      let new : State = record c.advance.new.state { place = record c.advance.new.state.place { at = c.burst_from-went.result.kept }; failed = true } in
      let ready : List ℕ = g.S.Source.ready c.args.ends.now.intake.source.now in
      let text : List ℕ = c.text-text.result.now in
      let h : ℕ = c.len-held.result in
      let asked : ℕ = c.burst_from-went.result.burst.asked in
      let made = text_made text old.reading.window.bytes c.show-shown.new.self.bytes c.show-shown.new.self.ahead c.ahead.result.now ready c.show-shown.result c.text-text.ensures c.show-shown.ensures.bytes c.show-shown.ensures.ahead c.ahead.ensures in
      let few : c.show-shown.result ≤ length ready = omega (arith, c.show-shown.ensures.few, ap length c.ahead.ensures) in
      let high : asked ≤ length text = c.burst_from-went.ensures.asked in (
        take (asked - h) ready,
        broke.out,
        c.give.ensures.bytes,
        broke.sink,
        λ e. absurd (never (sym c.if-self.false ∙ e)),
        (
          broke.turns,
          drop h (take broke.before text),
          drop broke.before (take asked text),
          Further.given_all text old.reading.window.bytes ready h c.show-shown.result asked c.len-held.ensures made few c.burst_from-went.ensures.held high ∙ grows text h broke.before asked broke.few broke.more high,
          Further.broke_further (g.M.Machine.machine c.args.machine.now) old new text ready h c.show-shown.result asked c.burst_from-went.result.burst.done c.burst_from-went.result.kept c.burst_from-went.result.burst.condition c.burst_from-went.result.burst.line_start
              c.len-held.ensures made few c.burst_from-went.ensures.held high
              (c.advance.ensures.held ∙ Further.accepted c.text-text.result.now old.reading.window.bytes c.show-shown.new.self.bytes c.show-shown.new.self.ahead c.ahead.result.now ready c.len-held.result c.show-shown.result c.burst_from-went.result.burst.asked c.burst_from-went.result.burst.done
              c.len-held.ensures made few c.burst_from-went.ensures.asked c.show-shown.ensures.bytes c.show-shown.ensures.ahead c.ahead.ensures) c.advance.ensures.taken c.if-self.false (c.advance.ensures.at_end ∙ c.if-self.false) refl c.advance.ensures.line_start c.advance.ensures.condition c.advance.ensures.stack c.requires.going.going
              (c.advance.ensures.ended ∙ c.requires.going.going) g.K.Sink.wrote _ _ broke refl,
        ),
      ));
  ends = grind (arith, common_steps);
  read_faults = grind (arith, common_steps);
  write_faults = grind (arith, common_steps);
  refusals = grind (arith, common_steps);
  at_end = grind (arith, common_steps);
  max_reads = grind (arith, common_steps);
  no_earlier = λ all. (let old : State = c.args.self.now.state in
      let ready : List ℕ = g.S.Source.ready c.args.ends.now.intake.source.now in
      let few : c.show-shown.result ≤ length ready = omega (arith, c.show-shown.ensures.few, ap length c.ahead.ensures) in
      let made = text_made c.text-text.result.now old.reading.window.bytes c.show-shown.new.self.bytes c.show-shown.new.self.ahead c.ahead.result.now ready c.show-shown.result c.text-text.ensures c.show-shown.ensures.bytes c.show-shown.ensures.ahead c.ahead.ensures in
      Further.starts_no_earlier (g.M.Machine.machine c.args.machine.now) old (record c.advance.new.state { place = record c.advance.new.state.place { at = c.burst_from-went.result.kept }; failed = true }) c.text-text.result.now ready c.len-held.result c.show-shown.result c.burst_from-went.result.burst.asked c.burst_from-went.result.burst.done c.burst_from-went.result.kept c.burst_from-went.result.burst.condition c.burst_from-went.result.burst.line_start
      c.len-held.ensures made few c.burst_from-went.ensures.held c.burst_from-went.ensures.asked
      (c.advance.ensures.held ∙ Further.accepted c.text-text.result.now old.reading.window.bytes c.show-shown.new.self.bytes c.show-shown.new.self.ahead c.ahead.result.now ready c.len-held.result c.show-shown.result c.burst_from-went.result.burst.asked c.burst_from-went.result.burst.done
      c.len-held.ensures made few c.burst_from-went.ensures.asked c.show-shown.ensures.bytes c.show-shown.ensures.ahead c.ahead.ensures) c.advance.ensures.taken c.if-self.false (c.advance.ensures.at_end ∙ c.if-self.false) refl c.advance.ensures.line_start c.advance.ensures.condition c.advance.ensures.stack c.requires.going.going
      (c.advance.ensures.ended ∙ c.requires.going.going) g.K.Sink.wrote c.args.ends.now.outlet.sink.now c.args.ends.now.outlet.sink.now all c.burst_from-went.ensures.kept c.burst_from-went.ensures.no_earlier);
  going = grind (arith, common_steps);
  working = grind (arith, common_steps);
  next = record {
    may_read = grind (arith, common_steps);
    may_write = grind (arith, common_steps);
    kept = grind (arith, common_steps);
  };
}
