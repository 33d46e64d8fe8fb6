use Rattle.std.proofs.Common.{take}
use Rattle.lexlook_letters.specs.Apart.{AreApart}
use Rattle.lexlook_letters.proofs.Remainders.{AreOthers}
use Rattle.lexlook_letters.proofs.complement.others.Given as goal

abbrev pub invariant-loop-range : goal.invariant-loop-range
invariant-loop-range l = record {
  points : AreOthers l.left.items (take l.range-index l.ranges);
  apart : AreApart l.left.items;
}
