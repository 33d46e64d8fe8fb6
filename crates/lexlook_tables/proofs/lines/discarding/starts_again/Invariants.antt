use Rattle.std.proofs.Common.{ℕ, ◌<◌}
use Rattle.lexlook_tables.specs.Lines.{StartsAgainBy}
use Rattle.lexlook_tables.proofs.lines.discarding.starts_again.Given as goal

abbrev pub invariant-bytes : goal.invariant-bytes
invariant-bytes g l = (b : ℕ) → b < l.byte → StartsAgainBy (g.M.Machine.machine l.machine) l.state b
