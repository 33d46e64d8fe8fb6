use Rattle.std.proofs.Common.{◌≡◌, ℕ, List, ◌++◌, drop}
use Rattle.lexauto_reports.specs.ReportLines.{warning_lines}
use Rattle.lexauto_reports.proofs.warned.write_warnings.Given as goal

-- what was written so far, and what is left, are all
abbrev pub invariant-loop-warning : goal.invariant-loop-warning
invariant-loop-warning g l =
    ((done : List ℕ) × g.K.Sink.wrote l.fn.sink done l.sink × (warning_lines l.fn.warnings ≡ done ++ warning_lines (drop l.warning-index l.fn.warnings)))
    × (g.K.Sink.failures l.sink ≡ g.K.Sink.failures l.fn.sink)
