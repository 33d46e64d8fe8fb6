use Rattle.std.proofs.Common.{ℕ, length, slice_index, subst, Vec, Global}
use Rattle.lexauto_dfa.specs.Sources.{Has}
use Rattle.lexauto_dfa.specs.Splits.{Cuts}
use Rattle.lexauto_dfa.proofs.GoesOn.{cuts_by, mark_is, mark_of}
use Rattle.lexauto_dfa.proofs.least.refining.split.Goals as goal

pub returns-clause-cuts : goal.returns-clause-cuts
returns-clause-cuts c = λ m tells.
    let old = c.args.blocks.now in
    let mid = c.mark_all.new.blocks in
    let marks = c.in_ok-mark_all.ensures.marks in
    let block = λ (x : ℕ). slice_index c.split_touched.new.blocks.block.items x in
    let before = Has c.args.waiting.now.items in
    let after = Has c.split_touched.new.waiting.items in
    cuts_by old mid (λ x. Has c.args.targets.now (slice_index c.args.letter.now.row.items x)) c.requires.ready.arranged c.requires.ready.untouched marks m tells block before after
    (subst (λ (v : Vec ℕ Global). Cuts (length v.items) (λ x. slice_index v.items x) block (mark_of mid) before after) marks.block
    (c.in_ok-split_touched.ensures.cuts (mark_of mid) (λ x h. mark_is mid x)))
