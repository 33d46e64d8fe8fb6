use Rattle.std.proofs.Common.{◌≡◌, ◌-◌, ◌+◌, false, length}
use Rattle.lexscan.specs.Bursts.{BurstMade}
use Rattle.lexscan.proofs.texts.burst_on.Given as goal

abbrev pub invariant-turns : goal.invariant-turns
invariant-turns g l =
    let M = g.M.Machine.machine l.machine in
    record {
      made : BurstMade {of_sink = g.K.Sink} M l.fn.outlet l.outlet l.text l.held l.fn.place.at l.fn.place l.went.burst l.went.kept;
      works : l.went.burst.fault ≡ false;
    }

abbrev pub decreases-turns : goal.decreases-turns
decreases-turns g l = length l.text - (l.went.burst.done + l.went.kept)
