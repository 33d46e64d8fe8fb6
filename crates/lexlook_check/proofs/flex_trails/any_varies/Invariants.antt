use Rattle.std.proofs.Common.{◌≡◌, drop, map}
use Rattle.lexlook_text.specs.PieceViews.{piece_of}
use Rattle.lexlook_check.specs.FlexTrails.{any_varies}
use Rattle.lexlook_check.proofs.flex_trails.any_varies.Given as goal

abbrev pub invariant-loop-piece : goal.invariant-loop-piece
invariant-loop-piece l = any_varies (map piece_of (drop l.piece-index l.pieces)) ≡ any_varies (map piece_of l.pieces)
