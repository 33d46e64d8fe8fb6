use Rattle.std.proofs.Common.{◌≡◌, ◌+◌, ◌-◌, ◌<◌, ◌≤◌, length, drop, true}
use Rattle.lexscan_matching.specs.Looks.{SoFar}
use Rattle.lexscan_matching.specs.Picks.{path_of, state_at}
use Rattle.lexscan_matching.proofs.last_states.look_ahead_last.Given as goal

abbrev pub invariant-held : goal.invariant-held
invariant-held g l =
    let M = g.M.Machine.machine l.machine in
    record {
      inside : l.fn.place.at + l.reach ≤ length l.reading.window.bytes;
      same : l.reading ≡ l.fn.reading;
      so_far : SoFar M l.fn.place (drop l.fn.place.at l.reading.window.bytes) l.reach l.state (path_of M l.fn.place l.reading.window.bytes l.reach);
      goes_on : 1 ≤ l.reach → M.goes_on l.state ≡ true;
      before_is : 1 ≤ l.reach → l.before ≡ state_at M l.fn.place l.reading.window.bytes (l.reach - 1);
      state_known : l.state < g.M.Machine.states l.machine;
      before_known : l.before < g.M.Machine.states l.machine;
    }

abbrev pub decreases-held : goal.decreases-held
decreases-held g l = l.held - l.fn.place.at - l.reach
