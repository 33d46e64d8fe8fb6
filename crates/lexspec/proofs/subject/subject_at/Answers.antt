use Rattle.std.proofs.Common.{sym, ◌∙◌}
use Rattle.std.proofs.lemmas.Result.{err_from_is_err_and}
use Rattle.lexspec_lines.proofs.OutcomeLaws.{on_err}
use Rattle.lexspec.proofs.SubjectLaws.{bare_refused, anchored_refused}
use Rattle.lexspec.proofs.subject.subject_at.Goals as goal

pub returns-in_err-head-clause-none : goal.returns-in_err-head-clause-none
returns-in_err-head-clause-none c =
    on_err c.from_residual.result _
    (bare_refused c.args.text.now (sym c.starts_with.ensures.value ∙ c.if-starts_with.false) (sym c.starts_with-2.ensures.value ∙ c.if-not-starts_with.true) c.in_err-head.ensures.none)

pub returns-in_err-head-2-clause-none : goal.returns-in_err-head-2-clause-none
returns-in_err-head-2-clause-none c =
    on_err c.from_residual-in_err-head-2.result _
    (anchored_refused c.args.text.now c.skip_first-after.result.now (sym c.starts_with.ensures.value ∙ c.if-starts_with.false) (sym c.starts_with-2.ensures.value ∙ c.if-not-starts_with.false)
    c.skip_first-after.ensures c.in_err-head-2.ensures.none)

pub returns-in_err-head-clause-fault : goal.returns-in_err-head-clause-fault
returns-in_err-head-clause-fault c =
    let p = err_from_is_err_and c.from_residual.result c.from_residual.ensures.1 in
    rw (p.1, p.2) c.in_err-head.ensures.fault

pub returns-in_err-head-2-clause-fault : goal.returns-in_err-head-2-clause-fault
returns-in_err-head-2-clause-fault c =
    let p = err_from_is_err_and c.from_residual-in_err-head-2.result c.from_residual-in_err-head-2.ensures.1 in
    rw (p.1, p.2) c.in_err-head-2.ensures.fault
