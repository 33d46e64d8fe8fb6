use Rattle.std.proofs.Common.{◌≡◌, ◌+◌, ◌-◌, ◌≤◌, length, ap, subst, ◌∙◌, arith}
use Rattle.std.proofs.lemmas.List.{take_rest, length-drop}
use Rattle.lexscan.specs.Bursts.{TurnsMade, BurstsBy}
use Rattle.lexscan.proofs.Chaining as Chain
use Rattle.lexscan.proofs.texts.burst_behind_text.Goals as goal

pub returns : goal.returns
returns g c =
    let M = g.M.Machine.machine c.args.machine.now in
    let text = c.args.text.now in
    let before = c.text_over-before.result in
    let b = c.burst_over-burst.result in
    let e = c.text_over-before.ensures in
    let f = c.burst_over-burst.ensures in
    let none : before.kept ≡ 0 = omega (arith, c.if-before-ne0.false) in
    let order : before.burst.done ≤ before.burst.asked = omega (arith, e.kept) in
    let left = ap length (take_rest text before.burst.done) ∙ length-drop before.burst.done text in
    let inside : before.burst.done + b.asked ≤ length text = omega (arith, f.asked, left, order, e.asked) in
    let failures = rw c.if-before.false at e.failures in
    record {
      same = f.same ∙ e.same;
      bursts = Chain.after_by M g.K.Sink.wrote g.met.K.Sink.wrote_more c.args.outlet.now.sink.now c.text_over-before.new.outlet.sink.now c.burst_over-burst.new.outlet.sink.now text c.args.held c.args.place before.burst.done 0 before.burst.asked before.burst.condition before.burst.line_start
          e.held order (subst (λ k. TurnsMade M g.K.Sink.wrote c.args.outlet.now.sink.now c.text_over-before.new.outlet.sink.now text c.args.held c.args.place.at c.args.place.condition c.args.place.line_start before.burst.done k before.burst.asked before.burst.condition before.burst.line_start) none (rw c.if-before.false at e.bursts))
          b 0 f.held inside b.fault (subst (λ l. BurstsBy b.fault M g.K.Sink.wrote c.text_over-before.new.outlet.sink.now c.burst_over-burst.new.outlet.sink.now l (before.burst.asked - before.burst.done) 0 before.burst.condition before.burst.line_start b 0) (take_rest text before.burst.done) f.bursts);
      failures = omega (arith, failures, f.failures);
      live = f.live;
      condition = f.condition;
      no_earlier = omega (arith, e.no_earlier, none);
      kept = omega (arith, f.kept);
      held = omega (arith, e.held, f.held, order);
      asked = inside;
    }
