-- The lengths of a tree's words, by cases on the tree. (This project's; that they are those of its language is proved.)
use Rattle.std.specs.Prelude.{ℕ, zero, suc, ◌+◌, ◌*◌, ◌^◌, ◌≤◌, min, max, Option, Some, None, unwrap_or, option_map, IsSomeAnd, ◌⊎◌}
use Rattle.lex_semantics.specs.Tree.{Tree, Trees, Empty, Set, Cat, Alt, Star, Repeat, no_trees, tree, In}
use Rattle.lex_semantics.specs.Shapes.{HasLengths}

-- Of two greatest lengths, None where there is none: their sum.
abbrev pub length_sum : Option ℕ → Option ℕ → Option ℕ
length_sum (Some m) (Some n) = Some (m + n)
length_sum (Some m) None = None
length_sum None n = None

-- the larger of the two
abbrev pub larger : Option ℕ → Option ℕ → Option ℕ
larger (Some m) (Some n) = Some (max m n)
larger (Some m) None = None
larger None n = None

-- the smaller of two least lengths, of which one may be missing
abbrev pub lesser : Option ℕ → Option ℕ → Option ℕ
lesser (Some m) (Some n) = Some (min m n)
lesser (Some m) None = Some m
lesser None n = n

-- any number of times: no greatest length, but where only nothing is repeated
abbrev pub unbounded : Option ℕ → Option ℕ
unbounded (Some zero) = Some 0
unbounded (Some (suc n)) = None
unbounded None = None

-- up to k times, or any number of times
abbrev pub length_repeated : Option ℕ → Option ℕ → Option ℕ
length_repeated None greatest = unbounded greatest
length_repeated (Some k) greatest = option_map (λ n. k * n) greatest

abbrev mutual
  pub least : Tree → ℕ
  least Empty = 0
  least (Set s) = 1
  least (Cat ts) = least_of_each ts
  least (Alt ts) = unwrap_or (least_of_some ts) 0
  least (Star t) = 0
  least (Repeat t m n) = m * least t

  pub least_of_each : Trees → ℕ
  least_of_each no_trees = 0
  least_of_each (tree t ts) = least t + least_of_each ts

  pub least_of_some : Trees → Option ℕ
  least_of_some no_trees = None
  least_of_some (tree t ts) = lesser (Some (least t)) (least_of_some ts)

abbrev mutual
  pub greatest : Tree → Option ℕ
  greatest Empty = Some 0
  greatest (Set s) = Some 1
  greatest (Cat ts) = greatest_of_each ts
  greatest (Alt ts) = greatest_of_some ts
  greatest (Star t) = unbounded (greatest t)
  greatest (Repeat t m n) = length_repeated n (greatest t)

  pub greatest_of_each : Trees → Option ℕ
  greatest_of_each no_trees = Some 0
  greatest_of_each (tree t ts) = length_sum (greatest t) (greatest_of_each ts)

  pub greatest_of_some : Trees → Option ℕ
  greatest_of_some no_trees = Some 0
  greatest_of_some (tree t ts) = larger (greatest t) (greatest_of_some ts)

-- a number above 2 ^ 32 counts as 2 ^ 32
abbrev pub capped : ℕ → ℕ
capped n = min (2 ^ 32) n

-- one of the lengths of the language passes the greatest u32
abbrev pub PassesLimit : Tree → Type 0
PassesLimit t = (m : ℕ) × (n : Option ℕ) × HasLengths (In t) m n × ((2 ^ 32 ≤ m) ⊎ IsSomeAnd n (λ k. 2 ^ 32 ≤ k))
