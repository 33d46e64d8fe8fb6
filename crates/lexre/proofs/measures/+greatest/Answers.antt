use Rattle.std.proofs.Common.{◌∙◌, ℕ, Option, map, option_map, sym, ap}
use Rattle.lex_semantics.specs.Tree.{trees}
use Rattle.lexre.specs.Lengths.{capped}
use Rattle.lexre.specs.Views.{items_of, tree_of}
use Rattle.lexre.proofs.BareLaws.{marked_greatest, marked_greatest_some, series_tree_of, choice_tree_of}
use Rattle.lexre.proofs.measures.+greatest.Goals as goal

pub capped_greatest-returns-then-is_bare : goal.capped_greatest-returns-then-is_bare
capped_greatest-returns-then-is_bare t c =
    let zero = marked_greatest c.in-Cat.parts.is_bare (trees (map tree_of (items_of c.in-Cat.parts))) (sym c.is_bare.ensures ∙ c.if-is_bare.true) in
    rw c.in-Cat.is (rw (series_tree_of c.in-Cat.parts) (ap (λ (x : Option ℕ). option_map capped x) (sym zero)))

pub capped_greatest-returns-then-is_bare-2 : goal.capped_greatest-returns-then-is_bare-2
capped_greatest-returns-then-is_bare-2 t c =
    let zero = marked_greatest_some c.in-Alt.parts.is_bare (trees (map tree_of (items_of c.in-Alt.parts))) (sym c.is_bare-in-Alt.ensures ∙ c.if-is_bare-2.true) in
    rw c.in-Alt.is (rw (choice_tree_of c.in-Alt.parts) (ap (λ (x : Option ℕ). option_map capped x) (sym zero)))
