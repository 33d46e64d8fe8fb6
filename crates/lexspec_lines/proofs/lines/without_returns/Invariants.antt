use Rattle.std.proofs.Common.{◌≡◌, ◌++◌, length}
use Rattle.lexspec_lines.specs.Lines.{without_returns}
use Rattle.lexspec_lines.proofs.lines.without_returns.Given as goal

-- what is kept so far, and of the rest
abbrev pub invariant-loop-at : goal.invariant-loop-at
invariant-loop-at l = l.kept.items ++ without_returns l.rest ≡ without_returns l.text

abbrev pub decreases-loop-at : goal.decreases-loop-at
decreases-loop-at l = length l.rest
