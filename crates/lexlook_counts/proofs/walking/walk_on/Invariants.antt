use Rattle.std.proofs.Common.{◌≡◌, ◌-◌, ◌<◌, ◌≤◌, length, true}
use Rattle.lexlook_counts.proofs.Walked.{Went}
use Rattle.lexlook_counts.proofs.walking.walk_on.Given as goal

-- the walk so far
abbrev pub invariant-bytes : goal.invariant-bytes
invariant-bytes g l =
    let M = g.M.Machine.machine l.machine in
    record {
      went : Went M l.first l.bytes l.count l.state l.before;
      known : l.state < g.M.Machine.states l.machine;
      goes_on : 1 ≤ l.count → M.goes_on l.state ≡ true;
    }

abbrev pub decreases-bytes : goal.decreases-bytes
decreases-bytes g l = length l.bytes - l.count
