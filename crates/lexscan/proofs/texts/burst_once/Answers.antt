use Rattle.std.proofs.Common.{◌≡◌, sym, subst, arith}
use Rattle.lexscan.specs.Bursts.{BurstsBy}
use Rattle.lexscan.proofs.texts.burst_once.Goals as goal

pub returns : goal.returns
returns g c =
    let p = c.args.place in
    let b = c.burst_over-burst.result in
    let e = c.burst_over-burst.ensures in
    let none : p.at ≡ 0 = omega (arith, c.if-place-ne0.false) in
    record {
      same = e.same;
      bursts = subst (λ k. BurstsBy b.fault (g.M.Machine.machine c.args.machine.now) g.K.Sink.wrote c.args.outlet.now.sink.now c.burst_over-burst.new.outlet.sink.now c.args.text.now c.args.held k p.condition p.line_start b 0) (sym none) e.bursts;
      failures = e.failures;
      live = e.live;
      condition = e.condition;
      no_earlier = omega (arith, none);
      kept = e.kept;
      held = e.held;
      asked = e.asked;
    }
