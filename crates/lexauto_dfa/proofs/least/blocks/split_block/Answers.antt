use Rattle.std.proofs.Common.{ℕ, arith, subst}
use Rattle.std.specs.Prelude.{slice_index}
use Rattle.std.proofs.lemmas.List.{get_or_read}
use Rattle.lexauto_dfa.specs.Arranged.{ArePieces}
use Rattle.lexauto_dfa.proofs.Pieces.{pieces_cut}
use Rattle.lexauto_dfa.proofs.least.blocks.split_block.Goals as goal

pub returns-clause-half : goal.returns-clause-half
returns-clause-half c = λ t.
    let b = c.args.blocks.now in
    let a = c.requires.arranged in
    let low = c.requires.number in
    let f = get_or_read b.first.items _ _ low c.index-first.ensures 0 in
    let e = get_or_read b.end.items _ _ (omega (arith, a.ends, low)) c.index-end.ensures 0 in
    let p = c.in_ok-divide.ensures.division.piece_is in
    let p0 = p.0 in
    let p1 = p.1 in
    let h = c.halves-pieces.ensures.half in
    omega (arith, f, e, p0, p1, h)

pub returns-clause-cut : goal.returns-clause-cut
returns-clause-cut c =
    let b = c.args.blocks.now in
    let n = c.args.number in
    let a = c.requires.arranged in
    let low = c.requires.number in
    let kept = c.halves-pieces.result.kept in
    let piece = c.halves-pieces.result.new in
    let f = get_or_read b.first.items _ _ low c.index-first.ensures 0 in
    let m = get_or_read b.middle.items _ _ (omega (arith, a.middles, low)) c.index-middle.ensures 0 in
    let e = get_or_read b.end.items _ _ (omega (arith, a.ends, low)) c.index-end.ensures 0 in
    let two : ArePieces (slice_index b.first.items n) (slice_index b.middle.items n) (slice_index b.end.items n) kept.from kept.to piece.from piece.to =
    subst (λ (i : ℕ). ArePieces i (slice_index b.middle.items n) (slice_index b.end.items n) kept.from kept.to piece.from piece.to) f
    (subst (λ (i : ℕ). ArePieces c.index-first.result.now i (slice_index b.end.items n) kept.from kept.to piece.from piece.to) m
    (subst (λ (i : ℕ). ArePieces c.index-first.result.now c.index-middle.result.now i kept.from kept.to piece.from piece.to) e c.halves-pieces.ensures)) in
    let d = c.in_ok-divide.ensures.division in
    pieces_cut b c.divide.new.blocks a n kept.from kept.to piece.from piece.to low two d.place d.same_states d.grown d.moved d.rest d.others d.touched
