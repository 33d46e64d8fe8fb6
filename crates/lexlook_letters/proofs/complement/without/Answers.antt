use Rattle.lexlook_letters.proofs.Apart.{piece_replaced}
use Rattle.lexlook_letters.proofs.Remainders.{piece_step}
use Rattle.lexlook_letters.proofs.complement.without.Goals as goal

pub loop-piece-preserved : goal.loop-piece-preserved
loop-piece-preserved c = record {
  points = piece_step _ _ _ _ _ _ c.loop-piece-test.true c.loop-piece.invariant.points c.in_ok-push_left.ensures.points;
  apart = piece_replaced _ _ _ _ _ c.loop-piece-test.true c.loop-piece.invariant.apart c.in_ok-push_left.ensures.apart;
}
