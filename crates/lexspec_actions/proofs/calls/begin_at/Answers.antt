use Rattle.std.proofs.Common.{sym}
use Rattle.lexspec_actions.proofs.CallLemmas.{begin_closed, begin_bare}
use Rattle.lexspec_actions.proofs.calls.begin_at.Goals as goal

pub returns-in-Some-clause-spelled : goal.returns-in-Some-clause-spelled
returns-in-Some-clause-spelled c = begin_closed _ _ _ _ _ _ (sym c.in-Some.ensures.next) c.in_ok-number.ensures.spelled c.begins.ensures

pub returns-clause-spelled : goal.returns-clause-spelled
returns-clause-spelled c = begin_bare _ _ _ _ _ (sym c.in_default.ensures.next) c.in_ok-number-2.ensures.spelled c.begins-2.ensures
