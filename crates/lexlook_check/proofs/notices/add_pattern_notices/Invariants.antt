use Rattle.std.proofs.Common.{◌≡◌, ◌++◌, flat_map, map, take}
use Rattle.lexlook_check.specs.Notices.{piece_notices}
use Rattle.lexlook_text.specs.PieceViews.{piece_of}
use Rattle.lexlook_check.proofs.notices.add_pattern_notices.Given as goal

abbrev pub invariant-loop-piece : goal.invariant-loop-piece
invariant-loop-piece l = l.notices.items ≡ l.fn.notices.items ++ flat_map (piece_notices l.line) (map piece_of (take l.piece-index l.piece-items))
