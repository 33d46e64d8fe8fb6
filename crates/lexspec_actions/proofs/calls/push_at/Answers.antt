use Rattle.std.proofs.Common.{sym}
use Rattle.lexspec_actions.proofs.CallLemmas.{push_closed}
use Rattle.lexspec_actions.proofs.calls.push_at.Goals as goal

pub returns-in-Some-clause-spelled : goal.returns-in-Some-clause-spelled
returns-in-Some-clause-spelled c = push_closed _ _ _ _ _ _ (sym c.in-Some.ensures.next) c.in_ok-number.ensures.spelled c.push_of.ensures
