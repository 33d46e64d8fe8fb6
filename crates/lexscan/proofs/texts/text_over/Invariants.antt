use Rattle.std.proofs.Common.{◌≡◌, ◌<◌, ◌≤◌, ◌-◌, true, length}
use Rattle.lexscan.specs.Bursts.{TurnsMade}
use Rattle.lexscan.proofs.texts.text_over.Given as goal

abbrev pub invariant-matches : goal.invariant-matches
invariant-matches g l =
    let M = g.M.Machine.machine l.machine in
    record {
      same : l.outlet.sink.ghost_name ≡ l.fn.outlet.sink.ghost_name;
      sink : l.outlet.sink.now ≡ l.fn.outlet.sink.now;
      live : l.outlet.live ≡ true;
      went : TurnsMade M g.K.Sink.wrote l.fn.outlet.sink.now l.fn.outlet.sink.now l.text l.held l.fn.place.at l.fn.place.condition l.fn.place.line_start 0 l.next.at l.asked l.next.condition l.next.line_start;
      condition : l.next.condition < M.conditions;
      starts : l.first ≡ M.start l.next.condition l.next.line_start;
      known : l.first < g.M.Machine.states l.machine;
      held : l.held ≤ l.asked;
      asked : l.asked ≤ length l.text;
      inside : l.next.at ≤ l.asked;
      begun : l.fn.place.at ≤ l.next.at;
    }

abbrev pub decreases-matches : goal.decreases-matches
decreases-matches g l = length l.text - l.next.at
