use Rattle.std.proofs.Common.{◌≡◌, ℕ, ◌<◌, ◌++◌, ◌∷◌, [], List, length, slice_index, arith, sym, subst, ap, ◌∙◌, Vec, Global}
use Rattle.std.proofs.lemmas.List.{get_or_read}
use Rattle.lexauto_dfa.specs.Arranged.{block_of, states}
use Rattle.lexauto_dfa.specs.Marked.{Notes}
use Rattle.lexauto_dfa.proofs.Noting.{noted, one_marked}
use Rattle.lexauto_dfa.proofs.least.marking.note.Goals as goal

pub returns-clause-notes : goal.returns-clause-notes
returns-clause-notes c =
    let b = c.args.blocks.now in
    let m = c.mark.ensures in
    let low = c.requires.arranged.numbered c.args.state c.requires.state in
    let same : states c.mark.new.blocks ≡ states b = ap (λ (v : Vec ℕ Global). length v.items) m.same.0 in
    let within : c.args.state < states c.mark.new.blocks = omega (arith, same, c.requires.state) in
    let block : c.index.result.now ≡ block_of b c.args.state =
    get_or_read c.mark.new.blocks.block.items _ _ within c.index.ensures 0 ∙ ap (λ (v : Vec ℕ Global). slice_index v.items c.args.state) m.same.0 in
    let items : c.push.new.self.items ≡ c.args.touched.now.items ++ block_of b c.args.state ∷ [] =
    c.in_ok-push.ensures.items ∙ ap (λ (n : ℕ). c.args.touched.now.items ++ n ∷ []) block in
    subst (λ (xs : List ℕ). Notes xs c.mark.new.blocks) (sym items)
    (noted b c.mark.new.blocks c.args.state c.mark.result m.same.0 m.same.1 m.touches c.args.touched.now.items low c.requires.notes)

pub returns-clause-marks : goal.returns-clause-marks
returns-clause-marks c =
    let m = c.mark.ensures in
    one_marked c.args.blocks.now c.mark.new.blocks c.args.state c.mark.result m.same.0 m.same.1 m.touches m.marks m.keeps m.only
