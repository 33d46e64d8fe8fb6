-- What a `Pattern` stands for: a tree.
use Rattle.std.specs.Prelude.{Bool, true, false, List, map}
use Rattle.lex_semantics.specs.Tree.{Tree, Trees, Empty, Set, Cat, Alt, Star, Repeat, no_trees, tree, trees}
use Rattle.lexre.specs.declared.pattern.Operands.{Operands}
use Rattle.lexre.specs.declared.pattern.Pattern.{Pattern}
use Rattle.lexre.specs.declared.pattern.Pattern.TheOpen.{Pattern-F}
use Rattle.lexre.specs.declared.pattern.Pattern.TheFolds.{fold-Pattern}

-- the tree with the empty text in the place of each set
abbrev mutual
  pub emptied : Tree → Tree
  emptied Empty = Empty
  emptied (Set s) = Empty
  emptied (Cat ts) = Cat (emptied_each ts)
  emptied (Alt ts) = Alt (emptied_each ts)
  emptied (Star t) = Star (emptied t)
  emptied (Repeat t m n) = Repeat (emptied t) m n

  pub emptied_each : Trees → Trees
  emptied_each no_trees = no_trees
  emptied_each (tree t ts) = tree (emptied t) (emptied_each ts)

-- parts, without where they lie in memory
abbrev pub items_of : {P : Type 0} → Operands P → List P
items_of parts = parts.items.value.items

-- whether parts are marked as such that read no byte
abbrev pub is_marked : {P : Type 0} → Operands P → Bool
is_marked parts = parts.is_bare

-- Where parts are marked, a set among them counts as the empty text. Parts are marked just where there is none.
abbrev pub emptied_if : Bool → Trees → Trees
emptied_if false ts = ts
emptied_if true ts = emptied_each ts

-- one node, with the tree of each child in its place
abbrev pub node_tree : Pattern-F Tree → Tree
node_tree Pattern-F.Empty = Empty
node_tree (Pattern-F.Set s) = Set s
node_tree (Pattern-F.Cat parts) = Cat (emptied_if (is_marked parts) (trees (items_of parts)))
node_tree (Pattern-F.Alt parts) = Alt (emptied_if (is_marked parts) (trees (items_of parts)))
node_tree (Pattern-F.Star inner) = Star inner.value
node_tree (Pattern-F.Repeat inner m n) = Repeat inner.value m n

-- the tree, without where its parts lie in memory
abbrev pub tree_of : Pattern → Tree
tree_of = fold-Pattern Tree node_tree

-- the trees of parts
abbrev pub parts_of : Operands Pattern → Trees
parts_of parts = emptied_if (is_marked parts) (trees (map tree_of (items_of parts)))
