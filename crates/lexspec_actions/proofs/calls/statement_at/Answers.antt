use Rattle.std.proofs.Common.{sym}
use Rattle.std.proofs.lemmas.Result.{err_from_is_err_and}
use Rattle.lexspec_actions.proofs.CallLemmas.{statement_refused, statement_open}
use Rattle.lexspec_actions.proofs.calls.statement_at.Goals as goal

pub returns-in_err-called-clause-spelled : goal.returns-in_err-called-clause-spelled
returns-in_err-called-clause-spelled c =
    let p = err_from_is_err_and c.from_residual.result c.from_residual.ensures.1 in
    rw (p.1, p.2) (statement_refused _ _ _ _ _ (sym c.in-Some.ensures.name) c.in_err-called.ensures.spelled)

pub returns-in_default-after_statement-clause-spelled : goal.returns-in_default-after_statement-clause-spelled
returns-in_default-after_statement-clause-spelled c =
    statement_open _ _ _ _ _ _ (sym c.in-Some.ensures.name) c.in_ok-called.ensures.spelled (sym c.in_default-after_statement.ensures.spelled)
