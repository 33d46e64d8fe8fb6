use Rattle.std.proofs.Common.{◌-◌, ◌≤◌}
use Rattle.lexscan_window.proofs.memo.walk_slot.Given as goal

abbrev pub invariant-probes : goal.invariant-probes
invariant-probes l = l.probe ≤ l.probes

abbrev pub decreases-probes : goal.decreases-probes
decreases-probes l = l.probes - l.probe
