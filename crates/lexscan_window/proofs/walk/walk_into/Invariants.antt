use Rattle.std.proofs.Common.{◌≡◌, ◌-◌, ◌<◌, ◌≤◌, length, take, true}
use Rattle.lexscan_window.specs.Walks.{Walked}
use Rattle.lexscan_window.proofs.walk.walk_into.Given as goal

abbrev pub invariant-bytes : goal.invariant-bytes
invariant-bytes g l =
    let M = g.M.Machine.machine l.machine in
    record {
      within : l.count ≤ length l.place;
      held : take l.count l.place ≡ take l.count l.ready;
      walked : Walked M l.first (take l.count l.ready) l.state l.before;
      goes_on : 1 ≤ l.count → M.goes_on l.state ≡ true;
      known : l.state < g.M.Machine.states l.machine;
      known_before : l.before < g.M.Machine.states l.machine;
    }

abbrev pub decreases-bytes : goal.decreases-bytes
decreases-bytes g l = length l.place - l.count
