use Rattle.std.proofs.Common.{arith}
use Rattle.lexlook_letters.proofs.Runs.{none_below, nothing_added, one_added, up_to_end, named_so, run_over}
use Rattle.lexlook_letters.proofs.split.add_run.Goals as goal

pub loop-next-init : goal.loop-next-init
loop-next-init c = (omega arith, omega arith, nothing_added _ _ (none_below c.args.first))

pub loop-next-preserved : goal.loop-next-preserved
loop-next-preserved c = (
  omega arith,
  omega arith,
  one_added _ _ _ _ _ _ _ c.loop-next.invariant.2 c.in_ok-push.ensures.items c.sequence_of.ensures.words c.sequence_of.ensures.sound
      (up_to_end c.args.first c.loop-next.next c.piece_end-end.result (omega arith) (omega arith)),
)

pub returns : goal.returns
returns c = named_so _ _ _ _ (run_over c.args.first c.loop-next.next c.args.last (omega arith) (omega arith)) c.loop-next.invariant.2
