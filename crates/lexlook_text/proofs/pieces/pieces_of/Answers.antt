use Rattle.std.proofs.Common.{◌≡◌, ◌∙◌, ℕ, ◌+◌, ◌-◌, List, ◌∷◌, false, length, drop, ap, sym, arith}
use Rattle.lex_semantics.specs.Reading.{is_white}
use Rattle.lexlook_text.specs.Pieces.{behind_piece, pieces_from}
use Rattle.lexlook_text.proofs.PieceLaws.{adds_piece, next_piece}
use Rattle.lexlook_text.proofs.pieces.pieces_of.Goals as goal

pub pieces-preserved : goal.pieces-preserved
pieces-preserved c =
    let more = c.saturating_sub-more.result in
    let rest = c.pieces.rest.now in
    let black : is_white c.in-Some.first.now ≡ false = grind (arith, c.if-is_blank.false, c.if-first-eq10.false, c.is_blank.ensures) in
    let size : more ≡ length c.in-Some.next.now - length (behind_piece rest) =
    c.saturating_sub-more.ensures ∙ ap (λ (b : List ℕ). length c.in-Some.next.now - length b) c.behind_piece.ensures in
    let first = next_piece c.pieces.at _ more _ rest c.in-Some.ensures.cases.0 black size in
    let front = ap (λ (f : List ℕ). (c.pieces.at, f) ∷ pieces_from (c.pieces.at + (more + 1)) 0 (drop (more + 1) rest)) (sym c.split_at.ensures.front) in
    let back = ap (λ (b : List ℕ). (c.pieces.at, c.split_at.result.0.now) ∷ pieces_from (c.pieces.at + (more + 1)) 0 b) (sym c.split_at.ensures.back) in
    record {
      found = adds_piece _ _ _ _ _ c.in_ok-push.ensures.items (first ∙ front ∙ back) ∙ c.pieces.invariant.found;
      place = omega (arith, c.split_at.ensures.back_len, c.pieces.invariant.place, c.in-Some.ensures.cases.1, c.saturating_sub-more.ensures);
    }
