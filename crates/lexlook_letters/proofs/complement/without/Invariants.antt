use Rattle.std.proofs.Common.{◌++◌, drop, take}
use Rattle.lexlook_letters.specs.Apart.{AreApart}
use Rattle.lexlook_letters.proofs.Remainders.{IsLeft}
use Rattle.lexlook_letters.proofs.complement.without.Given as goal

abbrev pub invariant-loop-piece : goal.invariant-loop-piece
invariant-loop-piece l = record {
  points : IsLeft l.left.items (take l.piece-index l.pieces) l.taken;
  apart : AreApart l.pieces → AreApart (l.left.items ++ drop l.piece-index l.pieces);
}
