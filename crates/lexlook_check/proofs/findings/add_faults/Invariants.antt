use Rattle.std.proofs.Common.{◌≡◌, ◌++◌, map, take}
use Rattle.lexlook_text.specs.LineViews.{line_of}
use Rattle.lexlook_check.specs.Findings.{fault_finding}
use Rattle.lexlook_check.proofs.findings.add_faults.Given as goal

abbrev pub invariant-loop-fault : goal.invariant-loop-fault
invariant-loop-fault l = l.findings.items ≡ l.fn.findings.items ++ map (fault_finding (map line_of l.lines)) (take l.fault-index l.faults)
