use Rattle.std.proofs.Common.{◌≡◌, ◌+◌, ◌++◌, length, map}
use Rattle.lexlook_text.specs.Pieces.{pieces_from}
use Rattle.lexlook_text.specs.PieceViews.{piece_of}
use Rattle.lexlook_text.proofs.pieces.pieces_of.Given as goal

-- what was found, and what begins the rest
abbrev pub invariant-pieces : goal.invariant-pieces
invariant-pieces l = record {
  found : map piece_of l.found.items ++ pieces_from l.at 0 l.rest ≡ pieces_from l.before 0 l.text;
  place : l.at + length l.rest ≡ l.before + length l.text;
}

abbrev pub decreases-pieces : goal.decreases-pieces
decreases-pieces l = length l.rest
