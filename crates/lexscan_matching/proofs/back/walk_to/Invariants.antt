use Rattle.std.proofs.Common.{◌≡◌, ◌-◌, ◌≤◌, true}
use Rattle.lexscan_matching.specs.Backs.{WalkedOver}
use Rattle.lexscan_matching.proofs.back.walk_to.Given as goal

abbrev pub invariant-bytes : goal.invariant-bytes
invariant-bytes g l =
    let M = g.M.Machine.machine l.machine in
    record {
      walked : WalkedOver M (g.M.Machine.states l.machine) l.place l.reading l.walked;
      goes_on : M.goes_on l.walked.state ≡ true;
      further : l.fn.from.len ≤ l.walked.len;
    }

abbrev pub decreases-bytes : goal.decreases-bytes
decreases-bytes g l = l.to - l.walked.len
