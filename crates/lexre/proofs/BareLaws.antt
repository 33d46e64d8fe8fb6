-- Trees whose sets are emptied: no positions, as many nodes, and no word but the empty one.
use Rattle.std.proofs.Common.{rules, ◌≡◌, ℕ, ◌+◌, ◌*◌, Bool, true, false, Option, Some, None, unwrap_or, min, refl, ap, ◌∙◌, arith}
use Rattle.lex_semantics.specs.Positions.{positions, positions_of, copies}
use Rattle.lex_semantics.specs.Shapes.{nodes, nodes_of}
use Rattle.lex_semantics.specs.Tree.{Tree, Trees, Empty, Set, Cat, Alt, Star, Repeat, no_trees, tree}
use Rattle.lexre.specs.Lengths.{least, least_of_each, least_of_some, greatest, greatest_of_each, greatest_of_some, lesser, larger, length_sum, length_repeated, unbounded}
use Rattle.lexre.specs.Views.{emptied, emptied_each, emptied_if, parts_of, tree_of}
use Rattle.lexre.specs.declared.pattern.Operands.{Operands}
use Rattle.lexre.specs.declared.pattern.Pattern.{Pattern}
use Rattle.lexre.specs.declared.pattern.Pattern.TheFolds as F
use Rattle.lexre.specs.declared.pattern.Pattern.TheVariants as P

mutual
  pub emptied_again : (t : Tree) → emptied (emptied t) ≡ emptied t
  emptied_again Empty = refl
  emptied_again (Set s) = refl
  emptied_again (Cat ts) = ap Cat (each_emptied_again ts)
  emptied_again (Alt ts) = ap Alt (each_emptied_again ts)
  emptied_again (Star t) = ap Star (emptied_again t)
  emptied_again (Repeat t m n) = ap (λ u. Repeat u m n) (emptied_again t)

  pub each_emptied_again : (ts : Trees) → emptied_each (emptied_each ts) ≡ emptied_each ts
  each_emptied_again no_trees = refl
  each_emptied_again (tree t ts) = ap (λ u. tree u (emptied_each (emptied_each ts))) (emptied_again t) ∙ ap (λ us. tree (emptied t) us) (each_emptied_again ts)

mutual
  pub no_positions : (t : Tree) → positions (emptied t) ≡ 0
  no_positions Empty = refl
  no_positions (Set s) = refl
  no_positions (Cat ts) = no_positions_each ts
  no_positions (Alt ts) = no_positions_each ts
  no_positions (Star t) = no_positions t
  no_positions (Repeat t m n) = ap (λ k. copies m n * k) (no_positions t) ∙ omega arith

  pub no_positions_each : (ts : Trees) → positions_of (emptied_each ts) ≡ 0
  no_positions_each no_trees = refl
  no_positions_each (tree t ts) = omega (arith, no_positions t, no_positions_each ts)

mutual
  pub same_nodes : (t : Tree) → nodes (emptied t) ≡ nodes t
  same_nodes Empty = refl
  same_nodes (Set s) = refl
  same_nodes (Cat ts) = ap (λ k. 1 + k) (same_nodes_each ts)
  same_nodes (Alt ts) = ap (λ k. 1 + k) (same_nodes_each ts)
  same_nodes (Star t) = ap (λ k. 1 + k) (same_nodes t)
  same_nodes (Repeat t m n) = ap (λ k. 1 + k) (same_nodes t)

  pub same_nodes_each : (ts : Trees) → nodes_of (emptied_each ts) ≡ nodes_of ts
  same_nodes_each no_trees = refl
  same_nodes_each (tree t ts) = omega (arith, same_nodes t, same_nodes_each ts)

pub marked_nodes : (b : Bool) (ts : Trees) → nodes_of (emptied_if b ts) ≡ nodes_of ts
marked_nodes false ts = refl
marked_nodes true ts = same_nodes_each ts

lesser_zero : (found : Option ℕ) → unwrap_or (lesser (Some 0) found) 0 ≡ 0
lesser_zero None = refl
lesser_zero (Some n) = let none : min 0 n ≡ 0 = omega arith in none

mutual
  pub least_zero : (t : Tree) → least (emptied t) ≡ 0
  least_zero Empty = refl
  least_zero (Set s) = refl
  least_zero (Cat ts) = least_zero_each ts
  least_zero (Alt ts) = least_zero_some ts
  least_zero (Star t) = refl
  least_zero (Repeat t m n) = ap (λ k. m * k) (least_zero t) ∙ omega arith

  pub least_zero_each : (ts : Trees) → least_of_each (emptied_each ts) ≡ 0
  least_zero_each no_trees = refl
  least_zero_each (tree t ts) = omega (arith, least_zero t, least_zero_each ts)

  pub least_zero_some : (ts : Trees) → unwrap_or (least_of_some (emptied_each ts)) 0 ≡ 0
  least_zero_some no_trees = refl
  least_zero_some (tree t ts) = ap (λ k. unwrap_or (lesser (Some k) (least_of_some (emptied_each ts))) 0) (least_zero t) ∙ lesser_zero (least_of_some (emptied_each ts))

repeated_zero : (n : Option ℕ) → length_repeated n (Some 0) ≡ Some 0
repeated_zero None = refl
repeated_zero (Some k) = ap Some (omega arith)

mutual
  pub greatest_zero : (t : Tree) → greatest (emptied t) ≡ Some 0
  greatest_zero Empty = refl
  greatest_zero (Set s) = refl
  greatest_zero (Cat ts) = greatest_zero_each ts
  greatest_zero (Alt ts) = greatest_zero_some ts
  greatest_zero (Star t) = ap unbounded (greatest_zero t)
  greatest_zero (Repeat t m n) = ap (length_repeated n) (greatest_zero t) ∙ repeated_zero n

  pub greatest_zero_each : (ts : Trees) → greatest_of_each (emptied_each ts) ≡ Some 0
  greatest_zero_each no_trees = refl
  greatest_zero_each (tree t ts) = ap (λ g. length_sum g (greatest_of_each (emptied_each ts))) (greatest_zero t) ∙ ap (length_sum (Some 0)) (greatest_zero_each ts)

  pub greatest_zero_some : (ts : Trees) → greatest_of_some (emptied_each ts) ≡ Some 0
  greatest_zero_some no_trees = refl
  greatest_zero_some (tree t ts) = ap (λ g. larger g (greatest_of_some (emptied_each ts))) (greatest_zero t) ∙ ap (larger (Some 0)) (greatest_zero_some ts)

-- Parts that are marked.

pub marked_again : (b : Bool) (ts : Trees) → b ≡ true → emptied_each (emptied_if b ts) ≡ emptied_if b ts
marked_again true ts e = each_emptied_again ts
marked_again false ts e = cc

pub marked_positions : (b : Bool) (ts : Trees) → b ≡ true → positions_of (emptied_if b ts) ≡ 0
marked_positions true ts e = no_positions_each ts
marked_positions false ts e = cc

pub marked_least : (b : Bool) (ts : Trees) → b ≡ true → least_of_each (emptied_if b ts) ≡ 0
marked_least true ts e = least_zero_each ts
marked_least false ts e = cc

pub marked_least_some : (b : Bool) (ts : Trees) → b ≡ true → unwrap_or (least_of_some (emptied_if b ts)) 0 ≡ 0
marked_least_some true ts e = least_zero_some ts
marked_least_some false ts e = cc

pub marked_greatest : (b : Bool) (ts : Trees) → b ≡ true → greatest_of_each (emptied_if b ts) ≡ Some 0
marked_greatest true ts e = greatest_zero_each ts
marked_greatest false ts e = cc

pub marked_greatest_some : (b : Bool) (ts : Trees) → b ≡ true → greatest_of_some (emptied_if b ts) ≡ Some 0
marked_greatest_some true ts e = greatest_zero_some ts
marked_greatest_some false ts e = cc

pub marked_rightly : (b : Bool) (ts : Trees) → (b ≡ true → emptied_each ts ≡ ts) → emptied_if b ts ≡ ts
marked_rightly true ts same = same refl
marked_rightly false ts same = refl

-- The tree of a pattern, by its parts.

pub series_tree_of : (parts : Operands Pattern) → tree_of (P.Cat parts) ≡ Cat (parts_of parts)
series_tree_of parts = search (rules, F.the_lemmas)

pub choice_tree_of : (parts : Operands Pattern) → tree_of (P.Alt parts) ≡ Alt (parts_of parts)
choice_tree_of parts = search (rules, F.the_lemmas)
