use Rattle.std.proofs.Common.{◌-◌, refl, subst, ◌∙◌, arith}
use Rattle.std.proofs.lemmas.Grind.{common_steps}
use Rattle.std.proofs.lemmas.List.{take_rest}
use Rattle.lexscan.specs.Bursts.{BurstMade}
use Rattle.lexscan.proofs.Bursting as Turned
use Rattle.lexscan.proofs.Joining as Join
use Rattle.lexscan.proofs.texts.burst_on.Goals as goal

pub turns-init : goal.turns-init
turns-init g c =
    let M = g.M.Machine.machine c.args.machine.now in
    let text = c.args.text.now in
    let p = c.args.place in
    let e = c.stopped-went.ensures in
    record {
      made = record {
        same = refl;
        bursts = rw (e.fault, e.done, e.kept, e.asked, e.condition, e.line) (Turned.went_none M g.K.Sink.wrote c.args.outlet.now.sink.now text c.args.held p.at p.condition p.line_start c.requires.held (g.met.K.Sink.wrote_none _));
        failures = grind (arith, common_steps);
        live = grind (arith, common_steps);
        condition = grind (arith, common_steps);
        no_earlier = grind (arith, common_steps);
        kept = grind (arith, common_steps);
        held = grind (arith, common_steps);
        asked = grind (arith, common_steps);
      };
      works = e.fault;
    }

pub returns-then-turn : goal.returns-then-turn
returns-then-turn g c =
    let M = g.M.Machine.machine c.args.machine.now in
    let text = c.args.text.now in
    let went = c.turns.went in
    let turn = c.turn_and_burst-turn.result in
    let at = c.place_after.ensures in
    let all = c.joined-all.ensures in
    Join.joined M g.met.K.Sink.wrote_more c.args.outlet.now c.turns.outlet c.turn_and_burst-turn.new.outlet text c.args.held c.args.place c.place_after.result went.burst turn.burst c.joined-all.result.burst went.kept turn.kept c.joined-all.result.kept
    c.turns.invariant.works c.turns.invariant.made (subst (λ l. BurstMade M c.turns.outlet c.turn_and_burst-turn.new.outlet l (went.burst.asked - went.burst.done) c.place_after.result.at c.place_after.result turn.burst turn.kept) (take_rest text went.burst.done) c.turn_and_burst-turn.ensures)
    at.at at.condition at.line all.done all.asked all.condition all.line all.fault all.kept

pub turns-preserved : goal.turns-preserved
turns-preserved g c =
    let M = g.M.Machine.machine c.args.machine.now in
    let text = c.args.text.now in
    let went = c.turns.went in
    let turn = c.turn_and_burst-turn.result in
    let at = c.place_after.ensures in
    let all = c.joined-all.ensures in
    record {
      made = Join.joined M g.met.K.Sink.wrote_more c.args.outlet.now c.turns.outlet c.turn_and_burst-turn.new.outlet text c.args.held c.args.place c.place_after.result went.burst turn.burst c.joined-all.result.burst went.kept turn.kept c.joined-all.result.kept
          c.turns.invariant.works c.turns.invariant.made (subst (λ l. BurstMade M c.turns.outlet c.turn_and_burst-turn.new.outlet l (went.burst.asked - went.burst.done) c.place_after.result.at c.place_after.result turn.burst turn.kept) (take_rest text went.burst.done) c.turn_and_burst-turn.ensures)
          at.at at.condition at.line all.done all.asked all.condition all.line all.fault all.kept;
      works = all.fault ∙ c.if-turn.false;
    }
