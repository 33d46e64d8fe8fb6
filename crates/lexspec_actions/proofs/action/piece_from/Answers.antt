use Rattle.lexspec_actions.proofs.ActionLemmas.{piece_said}
use Rattle.lexspec_actions.proofs.action.piece_from.Goals as goal

pub returns-clause-spelled : goal.returns-clause-spelled
returns-clause-spelled c = piece_said _ _ _ _ _ _ c.in-Some.ensures.cases.0 c.if-first-eq59.false c.if-first-eq123.false c.if-first-eq125.false c.in_ok-said.ensures.spelled
