use Rattle.std.proofs.Common.{◌≡◌, ℕ, ◌<◌, []}
use Rattle.lexlook_tables.proofs.lines.newlines.rule_after.Given as goal

abbrev pub invariant-bytes : goal.invariant-bytes
invariant-bytes g l = (b : ℕ) → b < l.byte → (g.M.Machine.machine l.machine).accepts ((g.M.Machine.machine l.machine).next l.state b) ≡ []
