use Rattle.std.proofs.lemmas.Grind.{common_steps}
use Rattle.std.proofs.Common.{ℕ, List, Option, refl, sym, ap, ◌∙◌, arith}
use Rattle.std.proofs.lemmas.Result.{err_from_is_err_and}
use Rattle.std.specs.Prelude.{map, filter_map}
use Rattle.lex_semantics.specs.Machine.{Machine}
use Rattle.lex_semantics.specs.PlainMachine.{kept_by, match_of}
use Rattle.lex_machine.specs.Views.{statement_of}
use Rattle.lex_semantics.specs.Candidates.{Candidate}
use Rattle.lexscan_window.specs.declared.act.ActionFlow.{ActionFlow}
use Rattle.lexscan_window.specs.declared.matched.MatchedRule.{MatchedRule}
use Rattle.lexscan_matching.specs.Descends.{conditions_of, Conditions, Takes, TakesUnlessAgain}
use Rattle.lexscan_matching.proofs.Descending as Down
use Rattle.lexscan_matching.proofs.descent.try_rules.Goals as goal
use Rattle.lexscan_matching.proofs.descent.try_rules.Goals.{in-Some+else-prove+in_ok-stop+in-Again, in_default}

pub rule-cut-requires : goal.rule-cut-requires
rule-cut-requires g c = c.requires.known _ (Down.among_get c.args.rules.now c.loop-rule.rule-index c.loop-rule-test.true)

pub returns-in_err-stop : goal.returns-in_err-stop
returns-in_err-stop g c = record {
  same = grind (arith, common_steps);
  sink = grind (arith, common_steps);
  inside = grind (arith, common_steps);
  tried = grind (arith, common_steps);
  takes = grind (arith, common_steps);
  cut_off = (let M : Machine = g.M.Machine.machine c.args.machine.now in
      let i : ℕ = c.loop-rule.rule-index in
      let p = err_from_is_err_and c.from_residual.result c.from_residual.ensures.1 in
      rw p.1 (Down.cut_here M g.K.Sink.wrote g.met.K.Sink.wrote_none g.met.K.Sink.wrote_more c.args.window.now.bytes c.args.at _ _ _
      (filter_map (match_of M c.args.len) c.args.rules.now) c.args.rules.now i c.args.len c.in-Some.keep (conditions_of c.args.acting.now) (conditions_of c.loop-rule.acting) (map statement_of c.rule-cut.result.1.now)
      c.loop-rule-test.true (c.requires.known _ (Down.among_get c.args.rules.now i c.loop-rule-test.true)) (ap (λ k. kept_by k c.args.len) (sym c.rule-cut.ensures.cut) ∙ sym c.in-Some.ensures.keep) c.rule-cut.ensures.statements
      c.loop-rule.invariant.passed c.in_err-stop.ensures.cut_short));
}

takes_unless : (M : Machine) (w : List ℕ) (at : ℕ) (all : List Candidate) (old : Conditions) (rule : Option MatchedRule) (step : ActionFlow) → Takes M w at all old rule → TakesUnlessAgain M w at all old rule step
takes_unless M w at all old rule ActionFlow.Next h = h
takes_unless M w at all old rule ActionFlow.Again h = tt
takes_unless M w at all old rule (ActionFlow.Over finish) h = h

pub returns-in_default-2 : goal.returns-in_default-2
returns-in_default-2 g c = record {
  same = grind (arith, common_steps);
  sink = grind (arith, common_steps);
  inside = grind (arith, common_steps);
  tried = (let ens = c.in_ok-stop.ensures in
      let M : Machine = g.M.Machine.machine c.args.machine.now in
      let i : ℕ = c.loop-rule.rule-index in
      Down.tried_stop M g.K.Sink.wrote g.met.K.Sink.wrote_none g.met.K.Sink.wrote_more c.args.window.now.bytes c.args.at _ _ _
      (filter_map (match_of M c.args.len) c.args.rules.now) c.args.rules.now i c.args.len c.in-Some.keep (conditions_of c.args.acting.now) (conditions_of c.loop-rule.acting) (map statement_of c.rule-cut.result.1.now) c.carry_out.new.acting c.in_ok-stop.stop c.in_default-2.not-Again
      c.loop-rule-test.true (c.requires.known _ (Down.among_get c.args.rules.now i c.loop-rule-test.true)) (ap (λ k. kept_by k c.args.len) (sym c.rule-cut.ensures.cut) ∙ sym c.in-Some.ensures.keep) c.rule-cut.ensures.statements
      c.loop-rule.invariant.passed ens.carried);
  takes = (let ens = c.in_ok-stop.ensures in
      let M : Machine = g.M.Machine.machine c.args.machine.now in
      let i : ℕ = c.loop-rule.rule-index in
      takes_unless M c.args.window.now.bytes c.args.at _ _ _ c.in_ok-stop.stop (Down.takes_next M g.K.Sink.wrote g.met.K.Sink.wrote_none g.met.K.Sink.wrote_more c.args.window.now.bytes c.args.at _ _ _
      (filter_map (match_of M c.args.len) c.args.rules.now) c.args.rules.now i c.args.len c.in-Some.keep (conditions_of c.args.acting.now) (conditions_of c.loop-rule.acting) (map statement_of c.rule-cut.result.1.now) c.carry_out.new.acting c.in_ok-stop.stop c.in_default-2.not-Again
      c.loop-rule-test.true (c.requires.known _ (Down.among_get c.args.rules.now i c.loop-rule-test.true)) (ap (λ k. kept_by k c.args.len) (sym c.rule-cut.ensures.cut) ∙ sym c.in-Some.ensures.keep) c.rule-cut.ensures.statements
      c.loop-rule.invariant.passed ens.carried _ refl));
  cut_off = grind (arith, common_steps);
}

pub loop-rule-preserved : goal.loop-rule-preserved
loop-rule-preserved g c = elim c.match-kept_length.branch [
  | in-Some+else-prove+in_ok-stop+in-Again w ↦
      (let ens = rw w.in-Again.is at w.in_ok-stop.ensures in
      let M : Machine = g.M.Machine.machine c.args.machine.now in
      let i : ℕ = c.loop-rule.rule-index in
      let passed = Down.passed_again M g.K.Sink.wrote g.met.K.Sink.wrote_none g.met.K.Sink.wrote_more c.args.window.now.bytes c.args.at _ _ _
      (filter_map (match_of M c.args.len) c.args.rules.now) c.args.rules.now i c.args.len w.in-Some.keep (conditions_of c.args.acting.now) (conditions_of c.loop-rule.acting) (map statement_of c.rule-cut.result.1.now) w.carry_out.new.acting
      c.loop-rule-test.true (c.requires.known _ (Down.among_get c.args.rules.now i c.loop-rule-test.true)) (ap (λ k. kept_by k c.args.len) (sym c.rule-cut.ensures.cut) ∙ sym w.in-Some.ensures.keep) c.rule-cut.ensures.statements
      c.loop-rule.invariant.passed ens.carried in
      rw (w.outlet-is, w.acting-is) (record {
        same = ens.same ∙ c.loop-rule.invariant.same;
        failures = omega (arith, ens.sink.write_faults, c.loop-rule.invariant.failures);
        live = ens.sink.may_write;
        inside = ens.inside;
        passed = passed;
      }))
  | in_default w ↦
      (let M : Machine = g.M.Machine.machine c.args.machine.now in
      let i : ℕ = c.loop-rule.rule-index in
      let passed = Down.passed_skip M g.K.Sink.wrote g.met.K.Sink.wrote_none g.met.K.Sink.wrote_more c.args.window.now.bytes c.args.at _ _
      (filter_map (match_of M c.args.len) c.args.rules.now) c.args.rules.now i c.args.len (conditions_of c.args.acting.now) (conditions_of c.loop-rule.acting)
      c.loop-rule-test.true (ap (λ k. kept_by k c.args.len) (sym c.rule-cut.ensures.cut) ∙ sym w.in_default.ensures.keep) c.loop-rule.invariant.passed in
      rw (w.outlet-is, w.acting-is) (record {
        same = c.loop-rule.invariant.same;
        failures = c.loop-rule.invariant.failures;
        live = c.loop-rule.invariant.live;
        inside = c.loop-rule.invariant.inside;
        passed = passed;
      }))
]

pub loop-rule-init : goal.loop-rule-init
loop-rule-init g c =
    let M : Machine = g.M.Machine.machine c.args.machine.now in
    record {
      same = refl;
      failures = refl;
      live = c.requires.live;
      inside = c.requires.inside;
      passed = Down.passed_first M g.K.Sink.wrote g.met.K.Sink.wrote_none g.met.K.Sink.wrote_more c.args.window.now.bytes c.args.at _ (filter_map (match_of M c.args.len) c.args.rules.now) (conditions_of c.args.acting.now);
    }
