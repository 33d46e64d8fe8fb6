use Rattle.std.proofs.Common.{◌≡◌, ℕ, List, ◌++◌, drop, flat_map}
use Rattle.lexauto_reports.specs.ReportLines.{backup_line}
use Rattle.lexauto_reports.proofs.backup.write_backup.Given as goal

-- what was written so far, and what is left, are all
abbrev pub invariant-loop-entry : goal.invariant-loop-entry
invariant-loop-entry g l =
    ((done : List ℕ) × g.K.Sink.wrote l.fn.sink done l.sink × (flat_map backup_line l.fn.entries ≡ done ++ flat_map backup_line (drop l.entry-index l.fn.entries)))
    × (g.K.Sink.failures l.sink ≡ g.K.Sink.failures l.fn.sink)
