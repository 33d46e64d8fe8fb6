use Rattle.std.proofs.Common.{◌≡◌, drop}
use Rattle.lexlook_check.specs.Places.{line_place}
use Rattle.lexlook_check.proofs.places.line_place.Given as goal

abbrev pub invariant-loop-at : goal.invariant-loop-at
invariant-loop-at l = line_place l.files l.fn.line ≡ line_place (drop l.at l.files) l.line
