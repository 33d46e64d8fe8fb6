use Rattle.std.proofs.Common.{◌≡◌, map, take}
use Rattle.lexauto_reports.specs.Warned.{of_code}
use Rattle.lexauto_reports.proofs.merging.of_code.Given as goal

abbrev pub invariant-loop-line : goal.invariant-loop-line
invariant-loop-line l = l.warnings.items ≡ map of_code (take l.line-index l.lines)
