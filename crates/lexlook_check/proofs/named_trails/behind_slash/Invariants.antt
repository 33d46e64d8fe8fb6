use Rattle.std.proofs.Common.{◌≡◌, drop, map}
use Rattle.lexlook_text.specs.PieceViews.{piece_of}
use Rattle.lexlook_check.specs.NamedTrails.{behind_slash}
use Rattle.lexlook_check.proofs.named_trails.behind_slash.Given as goal

abbrev pub invariant-loop-index : goal.invariant-loop-index
invariant-loop-index l = behind_slash (map piece_of (drop l.index l.pieces)) ≡ behind_slash (map piece_of l.pieces)
