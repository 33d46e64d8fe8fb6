use Rattle.std.proofs.Common.{◌-◌, length, map}
use Rattle.lexauto_positions.specs.Laid.{shape_of}
use Rattle.lexauto_positions.proofs.Passing.{HasPassed}
use Rattle.lexauto_positions.proofs.rules.pass_rules.Given as goal

abbrev pub invariant-loop-at : goal.invariant-loop-at
invariant-loop-at l = HasPassed (map shape_of l.rules) l.last l.at l.walked.followers.items l.walked.accepted.items

abbrev pub decreases-loop-at : goal.decreases-loop-at
decreases-loop-at l = length l.last - l.at
