use Rattle.std.proofs.Common.{◌≡◌, ◌≤◌, length}
use Rattle.lexspec_actions.specs.ByteSteps.{skip_in}
use Rattle.lexspec_actions.specs.ByteSteps.{outside}
use Rattle.lexspec_actions.proofs.bytes.skip.Given as goal

abbrev pub invariant-loop-first : goal.invariant-loop-first
invariant-loop-first l = (skip_in outside l.rest ≡ skip_in outside l.text) × (length l.rest ≤ length l.text)

abbrev pub decreases-loop-first : goal.decreases-loop-first
decreases-loop-first l = length l.rest
