use Rattle.std.proofs.Common.{◌≡◌, ◌∙◌, ℕ, ◌-◌, List, false, length, ap, sym}
use Rattle.lexlook_text.specs.Pieces.{behind_piece, from_slash, stops_at_slash}
use Rattle.lexlook_text.proofs.PieceLaws.{next_to_slash}
use Rattle.lexlook_text.proofs.pieces.from_slash.Goals as goal

pub pieces-preserved : goal.pieces-preserved
pieces-preserved c =
    let more = c.saturating_sub-more.result in
    let rest = c.pieces.rest.now in
    let black : stops_at_slash c.in-Some.first.now ≡ false = sym c.stops_at_slash.ensures ∙ c.if-stops_at_slash.false in
    let size : more ≡ length c.in-Some.next.now - length (behind_piece rest) =
    c.saturating_sub-more.ensures ∙ ap (λ (b : List ℕ). length c.in-Some.next.now - length b) c.behind_piece.ensures in
    c.pieces.invariant ∙ next_to_slash _ more _ rest c.in-Some.ensures.cases.0 black size ∙ ap (from_slash 0) (sym c.split_at.ensures.back)
