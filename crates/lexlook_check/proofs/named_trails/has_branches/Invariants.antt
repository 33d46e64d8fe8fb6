use Rattle.std.proofs.Common.{◌≡◌, ◌≤◌, drop, map}
use Rattle.lexlook_text.specs.PieceViews.{piece_of}
use Rattle.lexlook_check.specs.NamedTrails.{has_branches}
use Rattle.lexlook_check.proofs.named_trails.has_branches.Given as goal

-- the bars of the pieces from here on, and no more parentheses than pieces
abbrev pub invariant-loop-piece : goal.invariant-loop-piece
invariant-loop-piece l = record {
  few : l.depth ≤ l.piece-index;
  bars : has_branches l.depth (map piece_of (drop l.piece-index l.pieces)) ≡ has_branches 0 (map piece_of l.pieces);
}
