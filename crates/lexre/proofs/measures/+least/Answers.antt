use Rattle.std.proofs.Common.{◌∙◌, map, sym, ap}
use Rattle.lex_semantics.specs.Tree.{trees}
use Rattle.lexre.specs.Lengths.{capped}
use Rattle.lexre.specs.Views.{items_of, tree_of}
use Rattle.lexre.proofs.BareLaws.{marked_least, marked_least_some, series_tree_of, choice_tree_of}
use Rattle.lexre.proofs.measures.+least.Goals as goal

pub capped_least-returns-then-is_bare : goal.capped_least-returns-then-is_bare
capped_least-returns-then-is_bare t c =
    let zero = marked_least c.in-Cat.parts.is_bare (trees (map tree_of (items_of c.in-Cat.parts))) (sym c.is_bare.ensures ∙ c.if-is_bare.true) in
    rw c.in-Cat.is (rw (series_tree_of c.in-Cat.parts) (ap (capped) (sym zero)))

pub capped_least-returns-then-is_bare-2 : goal.capped_least-returns-then-is_bare-2
capped_least-returns-then-is_bare-2 t c =
    let zero = marked_least_some c.in-Alt.parts.is_bare (trees (map tree_of (items_of c.in-Alt.parts))) (sym c.is_bare-in-Alt.ensures ∙ c.if-is_bare-2.true) in
    rw c.in-Alt.is (rw (choice_tree_of c.in-Alt.parts) (ap (capped) (sym zero)))
