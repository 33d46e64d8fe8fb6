use Rattle.lexspec_actions.proofs.SameBytes.{nothing_skipped}
use Rattle.lexspec_actions.proofs.bytes.skip.Goals as goal

pub returns-clause-skipped : goal.returns-clause-skipped
returns-clause-skipped c = nothing_skipped _ _ c.in_default.ensures.cases c.loop-first.invariant.0
