use Rattle.std.proofs.Common.{◌≡◌, false, drop, map}
use Rattle.lexlook_text.specs.PieceViews.{piece_of}
use Rattle.lexlook_check.specs.FlexTrails.{slash_varies}
use Rattle.lexlook_check.proofs.flex_trails.slash_varies.Given as goal

-- the slash is that of the pieces from here on
abbrev pub invariant-loop-index : goal.invariant-loop-index
invariant-loop-index l = slash_varies l.varies (map piece_of (drop l.index l.pieces)) ≡ slash_varies false (map piece_of l.pieces)
