use Rattle.std.proofs.Common.{◌≡◌, ◌≤◌, length}
use Rattle.lexspec_actions.specs.ByteSteps.{skip_in, in_block}
use Rattle.lexspec_actions.specs.ByteSteps.{block}
use Rattle.lexspec_actions.proofs.bytes.after_block.Given as goal

abbrev pub invariant-loop-first : goal.invariant-loop-first
invariant-loop-first l = (skip_in (in_block l.star) l.rest ≡ skip_in block l.text) × (length l.rest ≤ length l.text)

abbrev pub decreases-loop-first : goal.decreases-loop-first
decreases-loop-first l = length l.rest
