use Rattle.std.proofs.Common.{◌-◌}
use Rattle.lexscan_matching.specs.Backs.{AreOnTheWay, WalkedOver}
use Rattle.lexscan_matching.proofs.back.walk_over.Given as goal

abbrev pub invariant-marks : goal.invariant-marks
invariant-marks g l =
    let M = g.M.Machine.machine l.machine in
    record {
      walked : WalkedOver M (g.M.Machine.states l.machine) l.fn.place l.reading l.walked;
      passed : AreOnTheWay M (g.M.Machine.states l.machine) l.fn.place l.reading l.passed.items;
    }

abbrev pub decreases-marks : goal.decreases-marks
decreases-marks g l = l.held - l.walked.len
