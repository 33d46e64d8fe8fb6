use Rattle.std.proofs.Common.{◌-◌, length}
use Rattle.lextab_packed.specs.Leaps.{AllOthers}
use Rattle.lextab_packed.proofs.leaps.pass_over.Given as goal

abbrev pub invariant-lanes : goal.invariant-lanes
invariant-lanes l = AllOthers l.leavers l.bytes l.start l.end

abbrev pub decreases-lanes : goal.decreases-lanes
decreases-lanes l = length l.bytes - l.end
