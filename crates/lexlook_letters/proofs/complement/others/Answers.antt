use Rattle.std.proofs.Common.{refl}
use Rattle.lexlook_letters.proofs.Remainders.{range_taken}
use Rattle.lexlook_letters.proofs.complement.others.Goals as goal

pub loop-range-preserved : goal.loop-range-preserved
loop-range-preserved c = record {
  points = range_taken _ _ _ _ _ _ c.loop-range-test.true refl c.loop-range.invariant.points c.in_ok-left.ensures.points;
  apart = c.in_ok-left.ensures.apart c.loop-range.invariant.apart;
}
