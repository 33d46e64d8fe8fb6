use Rattle.std.proofs.Common.{◌-◌}
use Rattle.lexscan_window.specs.Memos.{AreTrue}
use Rattle.lexscan_matching.specs.Backs.{IsOnTheWay}
use Rattle.lexscan_matching.proofs.back.note_further.Given as goal

abbrev pub invariant-marks : goal.invariant-marks
invariant-marks g l =
    let M = g.M.Machine.machine l.machine in
    record {
      passed : IsOnTheWay M (g.M.Machine.states l.machine) l.fn.place l.reading l.passed;
      marks : AreTrue M l.reading l.memo;
    }

abbrev pub decreases-marks : goal.decreases-marks
decreases-marks g l = l.settled.len - l.passed.len
