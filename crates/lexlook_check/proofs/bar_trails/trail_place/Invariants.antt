use Rattle.std.proofs.Common.{◌≡◌, drop, map}
use Rattle.lexlook_text.specs.PieceViews.{piece_of}
use Rattle.lexlook_check.specs.BarTrails.{trail_place}
use Rattle.lexlook_check.proofs.bar_trails.trail_place.Given as goal

-- the place is that of the pieces from here on
abbrev pub invariant-loop-index : goal.invariant-loop-index
invariant-loop-index l = trail_place (map piece_of (drop l.index l.pieces)) ≡ trail_place (map piece_of l.pieces)
