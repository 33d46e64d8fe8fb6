use Rattle.std.proofs.Common.{◌≡◌, ◌≤◌, length, take, true}
use Rattle.lex_semantics.specs.Trail.{falling}
use Rattle.lexscan_matching.specs.Descends.{conditions_of, Passed}
use Rattle.lexscan_matching.proofs.descent.descend.Given as goal

abbrev pub invariant-lengths : goal.invariant-lengths
invariant-lengths g l =
    let M = g.M.Machine.machine l.fn.machine in
    record {
      short : l.len ≤ length l.fn.path.states;
      same : l.outlet.sink.ghost_name ≡ l.fn.outlet.sink.ghost_name;
      failures : g.K.Sink.failures l.outlet.sink.now ≡ g.K.Sink.failures l.fn.outlet.sink.now;
      live : l.outlet.live ≡ true;
      inside : l.acting.end ≤ length l.fn.window.bytes;
      passed : Passed M g.K.Sink.wrote l.fn.outlet.sink.now l.outlet.sink.now l.fn.window.bytes l.fn.at (falling M 0 l.fn.path.states) (falling M 0 (take l.len l.fn.path.states)) (conditions_of l.fn.acting) (conditions_of l.acting);
    }

abbrev pub decreases-lengths : goal.decreases-lengths
decreases-lengths g l = l.len
