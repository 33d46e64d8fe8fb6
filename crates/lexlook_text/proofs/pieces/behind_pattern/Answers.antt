use Rattle.std.proofs.Common.{◌≡◌, ◌∙◌, ℕ, ◌-◌, List, false, length, ap, sym, arith}
use Rattle.lex_semantics.specs.Reading.{is_white}
use Rattle.lexlook_text.specs.Pieces.{behind_pattern, behind_piece}
use Rattle.lexlook_text.proofs.PieceLaws.{next_in_pattern}
use Rattle.lexlook_text.proofs.pieces.behind_pattern.Goals as goal

pub pieces-preserved : goal.pieces-preserved
pieces-preserved c =
    let more = c.saturating_sub-more.result in
    let rest = c.pieces.rest.now in
    let black : is_white c.in-Some.first.now ≡ false = grind (arith, c.if-is_blank.false, c.if-first-eq10.false, c.is_blank.ensures) in
    let size : more ≡ length c.in-Some.next.now - length (behind_piece rest) =
    c.saturating_sub-more.ensures ∙ ap (λ (b : List ℕ). length c.in-Some.next.now - length b) c.behind_piece.ensures in
    let step = next_in_pattern _ more _ rest c.in-Some.ensures.cases.0 black size in
    record {
      after = c.pieces.invariant.after ∙ step ∙ ap (behind_pattern 0) (sym c.split_at.ensures.back);
      shorter = omega (arith, c.split_at.ensures.back_len, c.pieces.invariant.shorter);
    }
