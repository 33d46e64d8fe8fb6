use Rattle.std.proofs.Common.{◌≡◌, ◌∙◌, List, true, ap, map, subst}
use Rattle.lex_semantics.specs.Tree.{Cat, trees}
use Rattle.lexre.specs.Views.{emptied_each, emptied_if, tree_of}
use Rattle.lexre.specs.declared.pattern.Pattern.{Pattern}
use Rattle.lexre.proofs.BareLaws.{marked_rightly, series_tree_of}
use Rattle.lexre.proofs.pattern.Pattern.series.Goals as goal

pub returns : goal.returns
returns c =
    let bare = c.are_bare-is_bare.result in
    let all = c.args.patterns.items in
    let same = subst (λ (ps : List Pattern). bare ≡ true → emptied_each (trees (map tree_of ps)) ≡ trees (map tree_of ps)) c.deref.ensures.value c.are_bare-is_bare.ensures in
    series_tree_of _ ∙ ap Cat (ap (λ v. emptied_if bare (trees (map tree_of v.items))) c.in_ok-items.ensures.ok ∙ marked_rightly bare (trees (map tree_of all)) same)
