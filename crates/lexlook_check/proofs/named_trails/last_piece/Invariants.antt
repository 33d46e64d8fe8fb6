use Rattle.std.proofs.Common.{◌≡◌, drop, map}
use Rattle.lexlook_text.specs.PieceViews.{piece_of}
use Rattle.lexlook_check.specs.NamedTrails.{last_piece}
use Rattle.lexlook_check.proofs.named_trails.last_piece.Given as goal

-- the last is that of the pieces from here on
abbrev pub invariant-loop-index : goal.invariant-loop-index
invariant-loop-index l = last_piece l.alone (map piece_of (drop l.index l.pieces)) ≡ last_piece l.whole (map piece_of l.pieces)
