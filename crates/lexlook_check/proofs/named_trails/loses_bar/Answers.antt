use Rattle.std.proofs.Common.{rules, ◌≡◌, ◌∙◌, ◌-◌, ◌+◌, ◌&&◌, not, false, ℕ, Bool, List, Some, map, option_map, sym, ap}
use Rattle.lexlook_text.specs.LineViews.{line_of}
use Rattle.lexlook_text.specs.PieceViews.{piece_of}
use Rattle.lexlook_text.specs.Pieces.{pieces_from}
use Rattle.lexlook_check.specs.NamedTrails.{end_of, has_branches, last_name, last_piece, loses_bar, most_names, pattern_of}
use Rattle.lexlook_check.proofs.TrailLaws.{divides, name_behind, stepped, undivided}
use Rattle.lexlook_check.proofs.named_trails.loses_bar.Goals as goal

pub loop-preserved : goal.loop-preserved
loop-preserved c =
    let k : ℕ = c.loop.counter in
    let defined : List (ℕ × List ℕ) = map line_of c.args.definitions.now in
    let e : Bool × List ℕ = (c.in-Some.field-0.whole, c.in-Some.field-0.name.now) in
    let here : option_map end_of c.loop.next ≡ Some e = search rules in
    let named : c.pattern_of.result.now ≡ pattern_of defined e.1 = search rules in
    let met : map piece_of c.in_ok-pieces.pieces.items ≡ pieces_from 0 0 (pattern_of defined e.1) = c.in_ok-pieces.ensures ∙ ap (pieces_from 0 0) named in
    let none : divides defined e ≡ false =
    ap (λ (ps : List (ℕ × List ℕ)). not e.0 && has_branches 0 ps) (sym (ap (map piece_of) c.as_slice.ensures.value ∙ met)) ∙ sym c.divides_more.ensures ∙ c.if-divides_more.false in
    let behind : option_map end_of c.last_name-next.result ≡ name_behind defined e =
    c.last_name-next.ensures ∙ ap last_name (c.last_piece.ensures ∙ ap (last_piece e.0) (ap (map piece_of) c.as_slice-in-loop.ensures.value ∙ met)) in
    ap (loses_bar (most_names - (k + 1)) defined) behind ∙ sym (undivided (divides defined e) (loses_bar (most_names - (k + 1)) defined (name_behind defined e)) none)
    ∙ sym (stepped most_names k defined e c.loop-test.true) ∙ ap (loses_bar (most_names - k) defined) (sym here) ∙ c.loop.invariant
