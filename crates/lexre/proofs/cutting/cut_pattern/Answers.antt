use Rattle.std.proofs.Common.{◌≡◌, ◌-◌, ◌<◌, ℕ, length, arith, subst, refl, ap, ◌∙◌}
use Rattle.std.proofs.lemmas.Result.{err_from_is_err_and}
use Rattle.lexre.proofs.CuttingLaws.{Agree, fresh, agree_first, agree_step, found_at, refused_piece, refused_slash}
use Rattle.lexre_bytes.specs.declared.error.PatternError.{PatternError}
use Rattle.lexre.proofs.FirstFaults.{piece_passed, one_deeper, none_of, slash_of, piece_of_text}
use Rattle.lexre.proofs.FaultLaws.{slash_fault_of_cutting}
use Rattle.lexre.proofs.cutting.cut_pattern.Goals as goal

pub pieces-init : goal.pieces-init
pieces-init c =
    let text = c.args.text.now in
    let P : ℕ → Type 0 = λ at. Agree fresh at text text in
    let e : 0 ≡ length text - length text = omega arith in
    record { agree = subst P e (agree_first text); told = refl; few = omega arith }

pub returns-in_err-kind-clause-none : goal.returns-in_err-kind-clause-none
returns-in_err-kind-clause-none c =
    let p = err_from_is_err_and c.from_residual.result c.from_residual.ensures.1 in
    rw p.1 (refused_piece _ _ _ _ c.pieces.invariant.agree c.in_err-kind.ensures.none c.in_err-kind.ensures.not_end)

pub returns-in_default-clause-found : goal.returns-in_default-clause-found
returns-in_default-clause-found c = found_at _ _ _ _ c.pieces.invariant.agree (rw c.in_default.is at c.in_ok-kind.ensures.found)

pub returns-in_err-progress-clause-none : goal.returns-in_err-progress-clause-none
returns-in_err-progress-clause-none c =
    let p = err_from_is_err_and c.from_residual-in_err-progress.result c.from_residual-in_err-progress.ensures.1 in
    rw p.1 (refused_slash _ _ _ _ _ _ c.pieces.invariant.agree (rw c.in-Some.is at c.in_ok-kind.ensures.found) c.in_err-progress.ensures.ending)

pub pieces-preserved : goal.pieces-preserved
pieces-preserved c =
    let here = rw c.in-Some.is at c.in_ok-kind.ensures.found in
    let shorter : length c.in-Some.after.now < length c.pieces.rest.now = rw c.in-Some.is at c.in_ok-kind.ensures.shorter in
    record {
      agree = agree_step _ _ _ _ _ _ _ _ here (omega arith) c.in_ok-progress.ensures.ending c.pieces.invariant.agree;
      told = c.pieces.invariant.told ∙ piece_passed _ _ _ _ _ here c.in_ok-progress.ensures.depth;
      few = omega (arith, one_deeper _ _ _ c.in_ok-progress.ensures.depth);
    }

pub returns-in_err-kind-clause-fault : goal.returns-in_err-kind-clause-fault
returns-in_err-kind-clause-fault c =
    let p = err_from_is_err_and c.from_residual.result c.from_residual.ensures.1 in
    rw (p.1, p.2) c.in_err-kind.ensures.fault

pub returns-in_err-progress-clause-fault : goal.returns-in_err-progress-clause-fault
returns-in_err-progress-clause-fault c =
    let p = err_from_is_err_and c.from_residual-in_err-progress.result c.from_residual-in_err-progress.ensures.1 in
    rw (p.1, p.2) (slash_fault_of_cutting _ (ap (λ (e : PatternError). e.kind) c.in_err-progress.ensures.fault))

pub returns-in_err-kind-clause-refused : goal.returns-in_err-kind-clause-refused
returns-in_err-kind-clause-refused c =
    let p = err_from_is_err_and c.from_residual.result c.from_residual.ensures.1 in
    rw (p.1, p.2, c.in_err-kind.ensures.told) (piece_of_text _ _ _ _ c.pieces.invariant.told c.in_err-kind.ensures.none c.in_err-kind.ensures.not_end (omega (arith, c.pieces.invariant.few)))

pub returns-in_default-clause-refused : goal.returns-in_default-clause-refused
returns-in_default-clause-refused c = none_of _ _ _ c.pieces.invariant.told (rw c.in_default.is at c.in_ok-kind.ensures.found)

pub returns-in_err-progress-clause-refused : goal.returns-in_err-progress-clause-refused
returns-in_err-progress-clause-refused c =
    let p = err_from_is_err_and c.from_residual-in_err-progress.result c.from_residual-in_err-progress.ensures.1 in
    rw (p.1, p.2, c.in_err-progress.ensures.fault)
    (slash_of _ _ _ _ _ _ c.pieces.invariant.told (rw c.in-Some.is at c.in_ok-kind.ensures.found) c.in_err-progress.ensures.depth (omega (arith, c.pieces.invariant.few)))
