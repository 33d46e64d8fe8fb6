use Rattle.std.proofs.Common.{◌≡◌, ◌≤◌, length}
use Rattle.lexspec_actions.specs.ByteSteps.{skip_in}
use Rattle.lexspec_actions.specs.ByteSteps.{line}
use Rattle.lexspec_actions.proofs.bytes.after_line.Given as goal

abbrev pub invariant-loop-first : goal.invariant-loop-first
invariant-loop-first l = (skip_in line l.rest ≡ skip_in line l.text) × (length l.rest ≤ length l.text)

abbrev pub decreases-loop-first : goal.decreases-loop-first
decreases-loop-first l = length l.rest
