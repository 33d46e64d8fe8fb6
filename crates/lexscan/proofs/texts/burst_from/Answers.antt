use Rattle.std.proofs.Common.{◌-◌, subst}
use Rattle.std.proofs.lemmas.List.{take_rest}
use Rattle.lexscan.specs.Bursts.{BurstMade}
use Rattle.lexscan.proofs.Joining as Join
use Rattle.lexscan.proofs.texts.burst_from.Goals as goal

pub returns : goal.returns
returns g c =
    let M = g.M.Machine.machine c.args.machine.now in
    let text = c.args.text.now in
    let went = c.burst_once-went.result in
    let next = c.burst_on-next.result in
    let at = c.place_after.ensures in
    let all = c.joined.ensures in
    Join.joined M g.met.K.Sink.wrote_more c.args.outlet.now c.burst_once-went.new.outlet c.burst_on-next.new.outlet text c.args.held c.args.place c.place_after.result went.burst next.burst c.joined.result.burst went.kept next.kept c.joined.result.kept
    c.if-went.false c.burst_once-went.ensures (subst (λ l. BurstMade M c.burst_once-went.new.outlet c.burst_on-next.new.outlet l (went.burst.asked - went.burst.done) c.place_after.result.at c.place_after.result next.burst next.kept) (take_rest text went.burst.done) c.burst_on-next.ensures)
    at.at at.condition at.line all.done all.asked all.condition all.line all.fault all.kept
