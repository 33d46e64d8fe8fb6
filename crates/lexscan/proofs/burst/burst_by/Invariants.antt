use Rattle.std.proofs.Common.{◌≡◌, ◌<◌, true, false, length}
use Rattle.lexscan.specs.Bursts.{AreStarts}
use Rattle.lexscan.proofs.Passing.{Place}
use Rattle.lexscan.proofs.burst.burst_by.Given as goal

abbrev pub invariant-turns : goal.invariant-turns
invariant-turns g l =
    let M = g.M.Machine.machine l.machine in
    record {
      same : l.outlet.sink.ghost_name ≡ l.fn.outlet.sink.ghost_name;
      place : Place M g.K.Sink.wrote l.fn.outlet.sink.now l.outlet.sink.now l.text l.held l.fn.place.condition l.fn.place.line_start l.rest l.unasked l.condition l.first;
      known : l.first < g.M.Machine.states l.machine;
      starts : AreStarts M (g.M.Machine.states l.machine) l.condition l.starts;
      failures : g.K.Sink.failures l.outlet.sink.now ≡ g.K.Sink.failures l.fn.outlet.sink.now;
      live : l.outlet.live ≡ true;
      fault : l.fault ≡ false;
      condition : l.condition < M.conditions;
    }

abbrev pub decreases-turns : goal.decreases-turns
decreases-turns g l = length l.rest
