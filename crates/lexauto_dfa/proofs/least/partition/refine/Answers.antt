use Rattle.std.proofs.Common.{rules, ◌≡◌, ℕ, List, length, sym, subst}
use Rattle.lexauto_dfa.specs.Arranged.{states}
use Rattle.lexauto_dfa.specs.Labels.{AreAlike}
use Rattle.lexauto_dfa.proofs.AlikeBlocks.{ready}
use Rattle.lexauto_dfa.proofs.least.partition.refine.Goals as goal

pub returns-clause-coarsest : goal.returns-clause-coarsest
returns-clause-coarsest c =
    let b = c.split_by_labels.new.blocks in
    let row : c.in_ok-labels.labels.row.items ≡ c.args.labels.items = c.in_ok-labels.ensures in
    let n : states b ≡ length c.args.labels.items = search rules in
    let one : states c.in_ok-blocks.blocks ≡ length c.args.labels.items = search rules in
    let alike : AreAlike c.args.labels.items (length c.args.labels.items) b c.split_by_labels.new.waiting.items =
    subst (λ (k : ℕ). AreAlike c.args.labels.items k b c.split_by_labels.new.waiting.items) one
    (subst (λ (xs : List ℕ). AreAlike xs (states c.in_ok-blocks.blocks) b c.split_by_labels.new.waiting.items) row c.in_ok-split_by_labels.ensures.alike) in
    c.in_ok-split_by_waiting.ensures.coarsest c.args.labels.items (sym n)
    (ready c.args.letters.now c.args.labels.items b c.split_by_labels.new.waiting.items c.requires.rows c.requires.labels n alike)
