use Rattle.std.proofs.Common.{◌-◌, subst}
use Rattle.std.proofs.lemmas.List.{take_rest}
use Rattle.lexscan.specs.Bursts.{BurstMade}
use Rattle.lexscan.proofs.Joining as Join
use Rattle.lexscan.proofs.texts.turn_and_burst.Goals as goal

pub returns : goal.returns
returns g c =
    let M = g.M.Machine.machine c.args.machine.now in
    let text = c.args.text.now in
    let turn = c.turn_apart-turn.result in
    let next = c.burst_once-next.result in
    let at = c.place_after.ensures in
    let all = c.joined.ensures in
    Join.joined M g.met.K.Sink.wrote_more c.args.outlet.now c.turn_apart-turn.new.outlet c.burst_once-next.new.outlet text c.args.held c.args.place c.place_after.result turn.burst next.burst c.joined.result.burst turn.kept next.kept c.joined.result.kept
    c.if-turn.false c.turn_apart-turn.ensures (subst (λ l. BurstMade M c.turn_apart-turn.new.outlet c.burst_once-next.new.outlet l (turn.burst.asked - turn.burst.done) c.place_after.result.at c.place_after.result next.burst next.kept) (take_rest text turn.burst.done) c.burst_once-next.ensures)
    at.at at.condition at.line all.done all.asked all.condition all.line all.fault all.kept
