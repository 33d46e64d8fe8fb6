use Rattle.std.proofs.Common.{◌≡◌, ◌++◌, map, take}
use Rattle.lexlook_check.specs.Findings.{warning_finding}
use Rattle.lexlook_check.proofs.findings.add_warnings.Given as goal

abbrev pub invariant-loop-warning : goal.invariant-loop-warning
invariant-loop-warning l = l.findings.items ≡ l.fn.findings.items ++ map warning_finding (take l.warning-index l.warnings)
