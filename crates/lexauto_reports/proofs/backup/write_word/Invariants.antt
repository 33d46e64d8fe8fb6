use Rattle.std.proofs.Common.{◌≡◌, ℕ, List, ◌++◌, drop, flat_map}
use Rattle.lexauto_reports.specs.ReportLines.{shown}
use Rattle.lexauto_reports.proofs.backup.write_word.Given as goal

-- what was written so far, and what is left, are all
abbrev pub invariant-loop-byte : goal.invariant-loop-byte
invariant-loop-byte g l =
    ((done : List ℕ) × g.K.Sink.wrote l.fn.sink done l.sink × (flat_map shown l.fn.word ≡ done ++ flat_map shown (drop l.byte-index l.fn.word)))
    × (g.K.Sink.failures l.sink ≡ g.K.Sink.failures l.fn.sink)
