-- Which trees are sound, how many nodes they have, and how long their words are.
-- (This project's; the words are POSIX's, lex, Regular Expressions in lex.)
use Rattle.std.specs.Prelude.{◌≡◌, ◌≢◌, ℕ, ◌+◌, ◌≤◌, ◌<◌, List, length, Option, Some, None, IfSome, ⊤}
use Rattle.lex_semantics.specs.ByteSets.{IsIn}
use Rattle.lex_semantics.specs.Tree.{Tree, Trees, Empty, Set, Cat, Alt, Star, Repeat, no_trees, tree}

-- each set has a byte, each series and each choice a part, and the bounds of a repetition are in order, the greater
-- at least 1
abbrev mutual
  pub IsSoundTree : Tree → Type 0
  IsSoundTree Empty = ⊤
  IsSoundTree (Set s) = (b : ℕ) × IsIn s b
  IsSoundTree (Cat ts) = AreSoundTrees ts × (ts ≢ no_trees)
  IsSoundTree (Alt ts) = AreSoundTrees ts × (ts ≢ no_trees)
  IsSoundTree (Star t) = IsSoundTree t
  IsSoundTree (Repeat t m n) = IsSoundTree t × IfSome n (λ n. (m ≤ n) × (1 ≤ n))

  pub AreSoundTrees : Trees → Type 0
  AreSoundTrees no_trees = ⊤
  AreSoundTrees (tree t ts) = IsSoundTree t × AreSoundTrees ts

-- What a tree counts: 1 for a set, and for another node what `node` makes of the count of its parts. Of the inner tree
-- of a repetition first `times` makes the count of all copies.
abbrev mutual
  pub weight : (ℕ → ℕ) → (ℕ → Option ℕ → ℕ → ℕ) → Tree → ℕ
  weight node times Empty = node 0
  weight node times (Set s) = 1
  weight node times (Cat ts) = node (weight_of node times ts)
  weight node times (Alt ts) = node (weight_of node times ts)
  weight node times (Star t) = node (weight node times t)
  weight node times (Repeat t m n) = node (times m n (weight node times t))

  pub weight_of : (ℕ → ℕ) → (ℕ → Option ℕ → ℕ → ℕ) → Trees → ℕ
  weight_of node times no_trees = 0
  weight_of node times (tree t ts) = weight node times t + weight_of node times ts

-- how many nodes a tree has
abbrev pub nodes : Tree → ℕ
nodes t = weight (λ k. 1 + k) (λ m n k. k) t

-- a set of words
abbrev pub Language : Type 1
Language = List ℕ → Type 0

-- no word is longer than n, and one is as long; or, with None, each length is passed by some word
abbrev pub LongestIs : Language → Option ℕ → Type 0
LongestIs L None = (n : ℕ) → (w : List ℕ) × L w × (n < length w)
LongestIs L (Some n) = ((w : List ℕ) × L w × (length w ≡ n)) × ((w : List ℕ) → L w → length w ≤ n)

-- the least length of a word of the language, and the greatest, where there is one
pub record HasLengths (L : Language) (least : ℕ) (greatest : Option ℕ) : Type 0 where
  pub shortest : (w : List ℕ) × L w × (length w ≡ least)
  pub none_shorter : (w : List ℕ) → L w → least ≤ length w
  pub longest : LongestIs L greatest

-- Names that the code and proofs have: for the nodes of all the parts, and for a list that has a part.

abbrev pub nodes_of : Trees → ℕ
nodes_of ts = weight_of (λ k. 1 + k) (λ m n k. k) ts

abbrev pub HasPart : Trees → Type 0
HasPart ts = ts ≢ no_trees
