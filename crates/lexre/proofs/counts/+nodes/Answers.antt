use Rattle.std.proofs.Common.{rules, ◌≡◌, ◌^◌, List, min, map, subst, arith}
use Rattle.lex_semantics.specs.Shapes.{nodes_of}
use Rattle.lex_semantics.specs.Tree.{trees}
use Rattle.lexre.specs.Views.{items_of, tree_of}
use Rattle.lexre.specs.declared.pattern.Pattern.{Pattern}
use Rattle.lexre.proofs.BareLaws.{marked_nodes, series_tree_of, choice_tree_of}
use Rattle.lexre.proofs.counts.+nodes.Goals as goal

pub capped_nodes-returns-in-Cat : goal.capped_nodes-returns-in-Cat
capped_nodes-returns-in-Cat t c =
    let many = marked_nodes c.in-Cat.parts.is_bare (trees (map tree_of (items_of c.in-Cat.parts))) in
    let own = subst (λ (ps : List Pattern). c.capped_nodes_of.result ≡ min (2 ^ 32) (nodes_of (trees (map tree_of ps)))) c.items.ensures c.capped_nodes_of.ensures in
    rw c.in-Cat.is (rw (series_tree_of c.in-Cat.parts) (rw many (search (rules, arith, own))))

pub capped_nodes-returns-in-Alt : goal.capped_nodes-returns-in-Alt
capped_nodes-returns-in-Alt t c =
    let many = marked_nodes c.in-Alt.parts.is_bare (trees (map tree_of (items_of c.in-Alt.parts))) in
    let own = subst (λ (ps : List Pattern). c.capped_nodes_of-in-Alt.result ≡ min (2 ^ 32) (nodes_of (trees (map tree_of ps)))) c.items-in-Alt.ensures c.capped_nodes_of-in-Alt.ensures in
    rw c.in-Alt.is (rw (choice_tree_of c.in-Alt.parts) (rw many (search (rules, arith, own))))
