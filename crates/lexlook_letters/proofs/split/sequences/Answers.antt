use Rattle.lexlook_letters.proofs.Runs.{range_step}
use Rattle.lexlook_letters.proofs.split.sequences.Goals as goal

pub loop-range-preserved : goal.loop-range-preserved
loop-range-preserved c = range_step _ _ _ _ _ c.loop-range-test.true c.loop-range.invariant c.in_ok-add_range.ensures
