use Rattle.std.proofs.Common.{◌≡◌, ◌+◌, length}
use Rattle.lexlook_check.specs.Returns.{lone_place}
use Rattle.lexlook_check.proofs.returns.lone_place.Given as goal

-- the place in what is left, behind what was passed
abbrev pub invariant-bytes : goal.invariant-bytes
invariant-bytes l = record {
  passed : l.at + length l.rest ≡ length l.text;
  place : lone_place 0 l.text ≡ lone_place l.at l.rest;
}

abbrev pub decreases-bytes : goal.decreases-bytes
decreases-bytes l = length l.rest
