use Rattle.std.proofs.Common.{◌≡◌, drop, map}
use Rattle.lexlook_check.specs.Takings.{taking_at, taking_of}
use Rattle.lexlook_check.proofs.takings.taking_at.Given as goal

abbrev pub invariant-loop-taking : goal.invariant-loop-taking
invariant-loop-taking l = taking_at (map taking_of (drop l.taking-index l.takings)) l.line ≡ taking_at (map taking_of l.takings) l.line
