use Rattle.std.proofs.Common.{◌≡◌, ℕ, List, ◌++◌, drop}
use Rattle.lexauto_reports.specs.Joined.{joined}
use Rattle.lexauto_reports.proofs.writing.put_all.Given as goal

-- what was written so far, and what is left, are all
abbrev pub invariant-loop-part : goal.invariant-loop-part
invariant-loop-part g l =
    ((done : List ℕ) × g.K.Sink.wrote l.fn.sink done l.sink × (joined l.fn.parts ≡ done ++ joined (drop l.part-index l.fn.parts)))
    × (g.K.Sink.failures l.sink ≡ g.K.Sink.failures l.fn.sink)
