use Rattle.std.proofs.Common.{rules, arith, ◌≡◌, length, ap, sym, ◌∙◌}
use Rattle.std.proofs.lemmas.Result.{err_from_is_err_and}
use Rattle.lexspec_actions.specs.Names.{known_in, names_of}
use Rattle.lexspec_actions.specs.Views.{said_of, piece_of}
use Rattle.lexspec_actions.proofs.ActionLemmas.{agree_first, agree_step, step_semicolon, step_opens, step_closes, step_says, refused_piece, refused_close, refused_open, found_at, piece_here}
use Rattle.lexspec_actions.proofs.action.read_statements.Goals as goal

pub pieces-init : goal.pieces-init
pieces-init c = record { agree = rw c.new-statements.ensures.items (agree_first _ _); bound = omega arith }

pub returns-then-open-gt0-clause-none : goal.returns-then-open-gt0-clause-none
returns-then-open-gt0-clause-none c =
    let z : length c.skip-here.result.now ≡ 0 = search rules in
    refused_open (known_in (names_of c.args.conditions.now) c.args.stack) _ _ _ _ c.pieces.invariant.agree (ap length (sym c.skip-here.ensures.skipped) ∙ z) c.if-open-gt0.true

pub returns-in_err-piece-clause-none : goal.returns-in_err-piece-clause-none
returns-in_err-piece-clause-none c =
    let p = err_from_is_err_and c.from_residual.result c.from_residual.ensures.1 in
    let z : length c.skip-here.result.now ≡ 0 → ⊥ = search rules in
    rw (p.1, p.2) (refused_piece (known_in (names_of c.args.conditions.now) c.args.stack) _ _ _ _ _ c.pieces.invariant.agree (λ h. z (ap length c.skip-here.ensures.skipped ∙ h))
    (rw c.skip-here.ensures.skipped at c.in_err-piece.ensures.spelled))

pub returns-then-open-eq0-clause-none : goal.returns-then-open-eq0-clause-none
returns-then-open-eq0-clause-none c =
    refused_close (known_in (names_of c.args.conditions.now) c.args.stack) _ _ _ _ _ c.if-open-eq0.true c.pieces.invariant.agree
    (piece_here _ _ _ _ _ _ c.skip-here.ensures.skipped c.in_ok-piece.ensures.spelled (ap piece_of c.in-Closes.is))

pub pieces-preserved-in-Semicolon : goal.pieces-preserved-in-Semicolon
pieces-preserved-in-Semicolon c = record {
  agree = agree_step (known_in (names_of c.args.conditions.now) c.args.stack) _ _ _ _ _ _ _ _
      (piece_here _ _ _ _ _ _ c.skip-here.ensures.skipped c.in_ok-piece.ensures.spelled (ap piece_of c.in-Semicolon.is)) (step_semicolon _ _ _) c.pieces.invariant.agree;
  bound = omega (arith, c.in_ok-piece.ensures.shorter, c.skip-here.ensures.shorter);
}

pub pieces-preserved-in-Opens : goal.pieces-preserved-in-Opens
pieces-preserved-in-Opens c = record {
  agree = agree_step (known_in (names_of c.args.conditions.now) c.args.stack) _ _ _ _ _ _ _ _
      (piece_here _ _ _ _ _ _ c.skip-here.ensures.skipped c.in_ok-piece.ensures.spelled (ap piece_of c.in-Opens.is)) (step_opens _ _ _) c.pieces.invariant.agree;
  bound = omega (arith, c.in_ok-piece.ensures.shorter, c.skip-here.ensures.shorter);
}

pub pieces-preserved-else-open-eq0 : goal.pieces-preserved-else-open-eq0
pieces-preserved-else-open-eq0 c = record {
  agree = agree_step (known_in (names_of c.args.conditions.now) c.args.stack) _ _ _ _ _ _ _ _
      (piece_here _ _ _ _ _ _ c.skip-here.ensures.skipped c.in_ok-piece.ensures.spelled (ap piece_of c.in-Closes.is)) (step_closes _ _ _ c.if-open-eq0.false) c.pieces.invariant.agree;
  bound = omega (arith, c.in_ok-piece.ensures.shorter, c.skip-here.ensures.shorter);
}

pub pieces-preserved : goal.pieces-preserved
pieces-preserved c = record {
  agree = rw c.in_ok-say-in-Says.ensures.ok (agree_step (known_in (names_of c.args.conditions.now) c.args.stack) _ _ _ _ _ _ _ _
      (piece_here _ _ _ _ _ _ c.skip-here.ensures.skipped c.in_ok-piece.ensures.spelled (ap piece_of c.in-Says.is)) (step_says _ _ _ (said_of c.in-Says.said)) c.pieces.invariant.agree);
  bound = omega (arith, c.in_ok-piece.ensures.shorter, c.skip-here.ensures.shorter);
}

pub returns-then-is_empty-clause-found : goal.returns-then-is_empty-clause-found
returns-then-is_empty-clause-found c =
    let z : length c.skip-here.result.now ≡ 0 = search rules in
    let e : c.pieces.open ≡ 0 = omega arith in
    found_at (known_in (names_of c.args.conditions.now) c.args.stack) _ _ _ _ c.pieces.invariant.agree (ap length (sym c.skip-here.ensures.skipped) ∙ z) e
