use Rattle.std.proofs.Common.{◌-◌, ◌<◌, length, take, drop, inl, refl, sym, ap, subst, ◌∙◌, arith}
use Rattle.std.specs.Prelude.{nat_eq}
use Rattle.std.proofs.lemmas.Grind.{common_steps}
use Rattle.std.proofs.lemmas.List.{get_or-take}
use Rattle.lexscan_matching.specs.Glanced.{IsGlancedMatch}
use Rattle.lexscan_matching.specs.declared.glanced.GlancedMatch.{GlancedMatch}
use Rattle.lex_machine.proofs.Growing.{is_text_from}
use Rattle.lex_machine.specs.declared.glance.Gist.TheVariants.{Silent}
use Rattle.lexscan.proofs.Passing as Pass
use Rattle.lexscan.proofs.burst.burst_by.Goals as goal
use Rattle.lexscan.proofs.burst.burst_by.Goals.{else-turns-test, then-turns-test+in_default, then-turns-test+in-Some+in_default-silent_part+then-not-names_rule, then-turns-test+in-Some+in_default-silent_part+else-not-names_rule+in_default-done}

pub turns-init : goal.turns-init
turns-init g c =
    let M = g.M.Machine.machine c.args.machine.now in
    let first = c.start_at-first.ensures M (g.M.Machine.states c.args.machine.now) c.args.place.condition c.starts_in-starts.ensures in
    record {
      same = refl;
      place = Pass.place_first M g.K.Sink.wrote g.met.K.Sink.wrote_none _ c.args.text.now c.args.held c.args.place.condition c.args.place.line_start _ c.requires.held first.0;
      starts = c.starts_in-starts.ensures;
      known = first.1;
      failures = refl;
      live = c.requires.live;
      fault = refl;
      condition = c.requires.condition;
    }

pub turns-smaller-in-Some-silent_part : goal.turns-smaller-in-Some-silent_part
turns-smaller-in-Some-silent_part g c =
    let M = g.M.Machine.machine c.args.machine.now in
    let laws = g.M.Machine.laws c.args.machine.now in
    let text = c.args.text.now in
    let bytes = is_text_from text (λ k. let f = c.type_inv.text k in omega (arith, f)) in
    let longest : GlancedMatch = record { gist = Silent; keep = c.in-Some-silent_part.keep } in
    let tells = subst (λ (told : GlancedMatch). IsGlancedMatch M c.turns.first c.turns.rest.now c.in-Some.way.count told) c.in-Some-silent_part.ensures
    (inl (c.near_match-near.ensures.near c.turns.first c.turns.rest.now c.in-Some.ensures.way)) in
    let some = (Pass.keeps M laws text bytes g.K.Sink.wrote g.met.K.Sink.wrote_none g.met.K.Sink.wrote_more c.args.outlet.now.sink.now c.turns.outlet.sink.now c.args.held c.args.place.condition c.args.place.line_start c.turns.rest.now c.turns.unasked c.turns.condition c.turns.first c.turns.invariant.place c.in-Some.way longest c.in-Some.ensures.way tells refl).0 in
    let line = ap (λ n. nat_eq n 10) (sym (get_or-take longest.keep c.turns.rest.now (longest.keep - 1) 0 (omega (arith, some)))) in
    let first = c.start_at-first-in-Some-silent_part.ensures M (g.M.Machine.states c.args.machine.now) c.turns.condition c.turns.invariant.starts in
    let then = Pass.place_then M laws text bytes g.K.Sink.wrote g.met.K.Sink.wrote_none g.met.K.Sink.wrote_more c.args.outlet.now.sink.now c.turns.outlet.sink.now c.args.held c.args.place.condition c.args.place.line_start c.turns.rest.now c.turns.unasked c.turns.condition c.turns.first c.turns.invariant.place c.in-Some.way longest c.in-Some.ensures.way tells refl
    c.turns.outlet.sink.now (g.met.K.Sink.wrote_none _) c.min-unasked.result c.min-unasked.ensures c.turns.condition refl c.start_at-first-in-Some-silent_part.result (first.0 ∙ ap (M.start c.turns.condition) line) in
    let less = Pass.shorter M laws text bytes g.K.Sink.wrote g.met.K.Sink.wrote_none g.met.K.Sink.wrote_more c.args.outlet.now.sink.now c.turns.outlet.sink.now c.args.held c.args.place.condition c.args.place.line_start c.turns.rest.now c.turns.unasked c.turns.condition c.turns.first c.turns.invariant.place c.in-Some.way longest c.in-Some.ensures.way tells refl in
    let more = Pass.no_longer M laws text bytes g.K.Sink.wrote g.met.K.Sink.wrote_none g.met.K.Sink.wrote_more c.args.outlet.now.sink.now c.turns.outlet.sink.now c.args.held c.args.place.condition c.args.place.line_start (take (length c.turns.rest.now - longest.keep) (drop longest.keep c.turns.rest.now)) c.min-unasked.result c.turns.condition c.start_at-first-in-Some-silent_part.result then c.pass_dropped-rest.result.now _ c.pass_dropped-rest.ensures in
    omega (arith, less, more)

pub turns-preserved-in-Some-silent_part : goal.turns-preserved-in-Some-silent_part
turns-preserved-in-Some-silent_part g c =
    let M = g.M.Machine.machine c.args.machine.now in
    let laws = g.M.Machine.laws c.args.machine.now in
    let text = c.args.text.now in
    let bytes = is_text_from text (λ k. let f = c.type_inv.text k in omega (arith, f)) in
    let longest : GlancedMatch = record { gist = Silent; keep = c.in-Some-silent_part.keep } in
    let tells = subst (λ (told : GlancedMatch). IsGlancedMatch M c.turns.first c.turns.rest.now c.in-Some.way.count told) c.in-Some-silent_part.ensures
    (inl (c.near_match-near.ensures.near c.turns.first c.turns.rest.now c.in-Some.ensures.way)) in
    let some = (Pass.keeps M laws text bytes g.K.Sink.wrote g.met.K.Sink.wrote_none g.met.K.Sink.wrote_more c.args.outlet.now.sink.now c.turns.outlet.sink.now c.args.held c.args.place.condition c.args.place.line_start c.turns.rest.now c.turns.unasked c.turns.condition c.turns.first c.turns.invariant.place c.in-Some.way longest c.in-Some.ensures.way tells refl).0 in
    let line = ap (λ n. nat_eq n 10) (sym (get_or-take longest.keep c.turns.rest.now (longest.keep - 1) 0 (omega (arith, some)))) in
    let first = c.start_at-first-in-Some-silent_part.ensures M (g.M.Machine.states c.args.machine.now) c.turns.condition c.turns.invariant.starts in
    let then = Pass.place_then M laws text bytes g.K.Sink.wrote g.met.K.Sink.wrote_none g.met.K.Sink.wrote_more c.args.outlet.now.sink.now c.turns.outlet.sink.now c.args.held c.args.place.condition c.args.place.line_start c.turns.rest.now c.turns.unasked c.turns.condition c.turns.first c.turns.invariant.place c.in-Some.way longest c.in-Some.ensures.way tells refl
    c.turns.outlet.sink.now (g.met.K.Sink.wrote_none _) c.min-unasked.result c.min-unasked.ensures c.turns.condition refl c.start_at-first-in-Some-silent_part.result (first.0 ∙ ap (M.start c.turns.condition) line) in
    record {
      same = c.turns.invariant.same;
      place = Pass.place_dropped M laws text bytes g.K.Sink.wrote g.met.K.Sink.wrote_none g.met.K.Sink.wrote_more c.args.outlet.now.sink.now c.turns.outlet.sink.now c.args.held c.args.place.condition c.args.place.line_start (take (length c.turns.rest.now - longest.keep) (drop longest.keep c.turns.rest.now)) c.min-unasked.result c.turns.condition c.start_at-first-in-Some-silent_part.result then c.pass_dropped-rest.result.now c.pass_dropped-rest.ensures;
      starts = c.turns.invariant.starts;
      known = first.1;
      failures = c.turns.invariant.failures;
      live = c.turns.invariant.live;
      fault = c.turns.invariant.fault;
      condition = c.turns.invariant.condition;
    }

pub pass_dropped-rest-requires-clause-first : goal.pass_dropped-rest-requires-clause-first
pass_dropped-rest-requires-clause-first g c = (c.start_at-first-in-Some-silent_part.ensures (g.M.Machine.machine c.args.machine.now) (g.M.Machine.states c.args.machine.now) c.turns.condition c.turns.invariant.starts).1

pub pass_copied-rest-requires-clause-first : goal.pass_copied-rest-requires-clause-first
pass_copied-rest-requires-clause-first g c = (c.start_at-first-in-turns.ensures (g.M.Machine.machine c.args.machine.now) (g.M.Machine.states c.args.machine.now) c.in-Ok.after c.starts_after-starts.ensures).1

pub starts_after-starts-requires-clause-after : goal.starts_after-starts-requires-clause-after
starts_after-starts-requires-clause-after g c =
    let M = g.M.Machine.machine c.args.machine.now in
    let laws = g.M.Machine.laws c.args.machine.now in
    let text = c.args.text.now in
    let bytes = is_text_from text (λ k. let f = c.type_inv.text k in omega (arith, f)) in
    let longest = c.longest_match-longest.result in
    let told = sym c.names_rule.ensures ∙ c.if-not-names_rule.false in
    subst (λ k. k < M.conditions) (sym c.in-Ok.ensures.condition) (Pass.condition_then M laws text bytes g.K.Sink.wrote g.met.K.Sink.wrote_none g.met.K.Sink.wrote_more c.args.outlet.now.sink.now c.turns.outlet.sink.now c.args.held c.args.place.condition c.args.place.line_start c.turns.rest.now c.turns.unasked c.turns.condition c.turns.first c.turns.invariant.place c.in-Some.way longest c.in-Some.ensures.way c.longest_match-longest.ensures told c.turns.invariant.condition)

pub singles_after-singles-requires : goal.singles_after-singles-requires
singles_after-singles-requires g c =
    let M = g.M.Machine.machine c.args.machine.now in
    let laws = g.M.Machine.laws c.args.machine.now in
    let text = c.args.text.now in
    let bytes = is_text_from text (λ k. let f = c.type_inv.text k in omega (arith, f)) in
    let longest = c.longest_match-longest.result in
    let told = sym c.names_rule.ensures ∙ c.if-not-names_rule.false in
    subst (λ k. k < M.conditions) (sym c.in-Ok.ensures.condition) (Pass.condition_then M laws text bytes g.K.Sink.wrote g.met.K.Sink.wrote_none g.met.K.Sink.wrote_more c.args.outlet.now.sink.now c.turns.outlet.sink.now c.args.held c.args.place.condition c.args.place.line_start c.turns.rest.now c.turns.unasked c.turns.condition c.turns.first c.turns.invariant.place c.in-Some.way longest c.in-Some.ensures.way c.longest_match-longest.ensures told c.turns.invariant.condition)

pub pass_copied-rest-requires-clause-condition : goal.pass_copied-rest-requires-clause-condition
pass_copied-rest-requires-clause-condition g c =
    let M = g.M.Machine.machine c.args.machine.now in
    let laws = g.M.Machine.laws c.args.machine.now in
    let text = c.args.text.now in
    let bytes = is_text_from text (λ k. let f = c.type_inv.text k in omega (arith, f)) in
    let longest = c.longest_match-longest.result in
    let told = sym c.names_rule.ensures ∙ c.if-not-names_rule.false in
    subst (λ k. k < M.conditions) (sym c.in-Ok.ensures.condition) (Pass.condition_then M laws text bytes g.K.Sink.wrote g.met.K.Sink.wrote_none g.met.K.Sink.wrote_more c.args.outlet.now.sink.now c.turns.outlet.sink.now c.args.held c.args.place.condition c.args.place.line_start c.turns.rest.now c.turns.unasked c.turns.condition c.turns.first c.turns.invariant.place c.in-Some.way longest c.in-Some.ensures.way c.longest_match-longest.ensures told c.turns.invariant.condition)

pub turns-smaller : goal.turns-smaller
turns-smaller g c =
    let M = g.M.Machine.machine c.args.machine.now in
    let laws = g.M.Machine.laws c.args.machine.now in
    let text = c.args.text.now in
    let bytes = is_text_from text (λ k. let f = c.type_inv.text k in omega (arith, f)) in
    let longest = c.longest_match-longest.result in
    let told = sym c.names_rule.ensures ∙ c.if-not-names_rule.false in
    let first = c.start_at-first-in-turns.ensures M (g.M.Machine.states c.args.machine.now) c.in-Ok.after c.starts_after-starts.ensures in
    let then = Pass.place_then M laws text bytes g.K.Sink.wrote g.met.K.Sink.wrote_none g.met.K.Sink.wrote_more c.args.outlet.now.sink.now c.turns.outlet.sink.now c.args.held c.args.place.condition c.args.place.line_start c.turns.rest.now c.turns.unasked c.turns.condition c.turns.first c.turns.invariant.place c.in-Some.way longest c.in-Some.ensures.way c.longest_match-longest.ensures told
    c.do_gist-done.new.outlet.sink.now c.in-Ok.ensures.bytes c.min-unasked-in-turns.result c.min-unasked-in-turns.ensures c.in-Ok.after c.in-Ok.ensures.condition c.start_at-first-in-turns.result first.0 in
    let less = Pass.shorter M laws text bytes g.K.Sink.wrote g.met.K.Sink.wrote_none g.met.K.Sink.wrote_more c.args.outlet.now.sink.now c.turns.outlet.sink.now c.args.held c.args.place.condition c.args.place.line_start c.turns.rest.now c.turns.unasked c.turns.condition c.turns.first c.turns.invariant.place c.in-Some.way longest c.in-Some.ensures.way c.longest_match-longest.ensures told in
    let more = Pass.no_longer M laws text bytes g.K.Sink.wrote g.met.K.Sink.wrote_none g.met.K.Sink.wrote_more c.args.outlet.now.sink.now c.do_gist-done.new.outlet.sink.now c.args.held c.args.place.condition c.args.place.line_start (take (length c.turns.rest.now - longest.keep) (drop longest.keep c.turns.rest.now)) c.min-unasked-in-turns.result c.in-Ok.after c.start_at-first-in-turns.result then c.pass_copied-rest.result.now _ c.pass_copied-rest.ensures.passed in
    omega (arith, less, more)

pub turns-preserved : goal.turns-preserved
turns-preserved g c =
    let M = g.M.Machine.machine c.args.machine.now in
    let laws = g.M.Machine.laws c.args.machine.now in
    let text = c.args.text.now in
    let bytes = is_text_from text (λ k. let f = c.type_inv.text k in omega (arith, f)) in
    let longest = c.longest_match-longest.result in
    let told = sym c.names_rule.ensures ∙ c.if-not-names_rule.false in
    let first = c.start_at-first-in-turns.ensures M (g.M.Machine.states c.args.machine.now) c.in-Ok.after c.starts_after-starts.ensures in
    let then = Pass.place_then M laws text bytes g.K.Sink.wrote g.met.K.Sink.wrote_none g.met.K.Sink.wrote_more c.args.outlet.now.sink.now c.turns.outlet.sink.now c.args.held c.args.place.condition c.args.place.line_start c.turns.rest.now c.turns.unasked c.turns.condition c.turns.first c.turns.invariant.place c.in-Some.way longest c.in-Some.ensures.way c.longest_match-longest.ensures told
    c.do_gist-done.new.outlet.sink.now c.in-Ok.ensures.bytes c.min-unasked-in-turns.result c.min-unasked-in-turns.ensures c.in-Ok.after c.in-Ok.ensures.condition c.start_at-first-in-turns.result first.0 in
    record {
      same = c.pass_copied-rest.ensures.same ∙ c.in-Ok.ensures.same ∙ c.turns.invariant.same;
      place = Pass.place_copied M laws text bytes g.K.Sink.wrote g.met.K.Sink.wrote_none g.met.K.Sink.wrote_more c.args.outlet.now.sink.now c.do_gist-done.new.outlet.sink.now c.args.held c.args.place.condition c.args.place.line_start (take (length c.turns.rest.now - longest.keep) (drop longest.keep c.turns.rest.now)) c.min-unasked-in-turns.result c.in-Ok.after c.start_at-first-in-turns.result then c.pass_copied-rest.result.now c.pass_copied-rest.ensures.passed c.pass_copied-rest.new.outlet.sink.now c.pass_copied-rest.ensures.bytes;
      starts = c.starts_after-starts.ensures;
      known = first.1;
      failures = (let kept = c.pass_copied-rest.ensures.failures in omega (arith, kept, c.in-Ok.ensures.sink.write_faults, c.turns.invariant.failures));
      live = c.pass_copied-rest.ensures.live ∙ c.in-Ok.ensures.sink.may_write;
      fault = c.turns.invariant.fault;
      condition = subst (λ k. k < M.conditions) (sym c.in-Ok.ensures.condition) (Pass.condition_then M laws text bytes g.K.Sink.wrote g.met.K.Sink.wrote_none g.met.K.Sink.wrote_more c.args.outlet.now.sink.now c.turns.outlet.sink.now c.args.held c.args.place.condition c.args.place.line_start c.turns.rest.now c.turns.unasked c.turns.condition c.turns.first c.turns.invariant.place c.in-Some.way longest c.in-Some.ensures.way c.longest_match-longest.ensures told c.turns.invariant.condition);
    }

pub returns : goal.returns
returns g c =
    let M = g.M.Machine.machine c.args.machine.now in
    let laws = g.M.Machine.laws c.args.machine.now in
    let text = c.args.text.now in
    let bytes = is_text_from text (λ k. let f = c.type_inv.text k in omega (arith, f)) in
    let at = c.turns.invariant.place in
    let inside = at.inside in
    let few = at.few in
    record {
      same = grind (arith, common_steps);
      bursts = (elim c.turns-test.branch [
        | else-turns-test w ↦ rw (w.fault-is ∙ c.turns.invariant.fault, w.outlet-is, c.min.ensures, w.unasked-is, c.starts_line.ensures) at.went
        | then-turns-test+in_default w ↦ rw (w.fault-is ∙ c.turns.invariant.fault, w.outlet-is, c.min.ensures, w.unasked-is, c.starts_line.ensures) at.went
        | then-turns-test+in-Some+in_default-silent_part+then-not-names_rule w ↦ rw (w.fault-is ∙ c.turns.invariant.fault, w.outlet-is, c.min.ensures, w.unasked-is, c.starts_line.ensures) at.went
        | then-turns-test+in-Some+in_default-silent_part+else-not-names_rule+in_default-done w ↦
            let put = w.in_default-done.ensures.bytes in
            rw (w.fault-is, w.outlet-is, c.min.ensures, w.unasked-is, c.starts_line.ensures) (Pass.broke_then M laws text bytes g.K.Sink.wrote g.met.K.Sink.wrote_none g.met.K.Sink.wrote_more c.args.outlet.now.sink.now c.turns.outlet.sink.now c.args.held c.args.place.condition c.args.place.line_start c.turns.rest.now c.turns.unasked c.turns.condition c.turns.first c.turns.invariant.place w.in-Some.way w.longest_match-longest.result w.in-Some.ensures.way w.longest_match-longest.ensures (sym w.names_rule.ensures ∙ w.if-not-names_rule.false)
            w.do_gist-done.new.outlet.sink.now put.0 put.1 put.2 w.min-unasked-in-turns.result w.min-unasked-in-turns.ensures)
      ]);
      failures = grind (arith, common_steps);
      live = grind (arith, common_steps);
      condition = grind (arith, common_steps);
      no_earlier = omega arith;
      kept = grind (arith, common_steps);
      held = grind (arith, common_steps);
      asked = grind (arith, common_steps);
    }
