use Rattle.std.proofs.Common.{◌≡◌, length}
use Rattle.lexlook_text.specs.Pieces.{from_slash}
use Rattle.lexlook_text.proofs.pieces.from_slash.Given as goal

-- the first slash is that of the rest
abbrev pub invariant-pieces : goal.invariant-pieces
invariant-pieces l = from_slash 0 l.text ≡ from_slash 0 l.rest

abbrev pub decreases-pieces : goal.decreases-pieces
decreases-pieces l = length l.rest
