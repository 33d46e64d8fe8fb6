-- Trees laid out for walks: with how many positions each part has. (This project's.)
use Rattle.std.specs.Prelude.{◌≡◌, ℕ, ◌*◌, List, [], ◌∷◌, map, Option, ⊤}
use Rattle.lex_semantics.specs.ByteSets.{ByteSet}
use Rattle.lex_semantics.specs.Tree.{Tree, Trees, Empty, Set, Cat, Alt, Star, Repeat, no_trees, tree}
use Rattle.lex_semantics.specs.Positions.{positions, positions_of, copies}
use Rattle.lexauto_positions.specs.declared.layout.SizedPattern.{SizedPattern}
use Rattle.lexauto_positions.specs.declared.layout.SizedPattern.TheOpen.{SizedPattern-F}
use Rattle.lexauto_positions.specs.declared.layout.SizedPattern.TheFolds.{fold-SizedPattern}

mutual
  pub data Plan : Type 0 where
    -- no position
    Nothing : Plan
    -- one position
    Letter : ByteSet → Plan
    -- parts one after another
    Series : ℕ → Plans → Plan
    -- one of the parts
    Choice : ℕ → Plans → Plan
    -- any number of times
    Loop : ℕ → Plan → Plan
    -- between two bounds
    Copies : ℕ → Plan → ℕ → Option ℕ → Plan

  pub data Plans : Type 0 where
    no_plans : Plans
    plan : Plan → Plans → Plans

abbrev pub plans : List Plan → Plans
plans [] = no_plans
plans (p ∷ ps) = plan p (plans ps)

-- the tree, without the numbers
abbrev mutual
  pub tree_in : Plan → Tree
  tree_in Nothing = Empty
  tree_in (Letter s) = Set s
  tree_in (Series n ps) = Cat (trees_in ps)
  tree_in (Choice n ps) = Alt (trees_in ps)
  tree_in (Loop n p) = Star (tree_in p)
  tree_in (Copies n p m k) = Repeat (tree_in p) m k

  pub trees_in : Plans → Trees
  trees_in no_plans = no_trees
  trees_in (plan p ps) = tree (tree_in p) (trees_in ps)

-- each part's number is that of its positions
abbrev mutual
  pub IsSized : Plan → Type 0
  IsSized Nothing = ⊤
  IsSized (Letter s) = ⊤
  IsSized (Series n ps) = (n ≡ positions_of (trees_in ps)) × AreSized ps
  IsSized (Choice n ps) = (n ≡ positions_of (trees_in ps)) × AreSized ps
  IsSized (Loop n p) = (n ≡ positions (tree_in p)) × IsSized p
  IsSized (Copies n p m k) = (n ≡ copies m k * positions (tree_in p)) × IsSized p

  pub AreSized : Plans → Type 0
  AreSized no_plans = ⊤
  AreSized (plan p ps) = IsSized p × AreSized ps

-- one node, with the plan of each child in its place
abbrev pub node_plan : SizedPattern-F Plan → Plan
node_plan SizedPattern-F.Nothing = Nothing
node_plan (SizedPattern-F.Letter s) = Letter s
node_plan (SizedPattern-F.Series n parts) = Series n (plans parts.items)
node_plan (SizedPattern-F.Choice n parts) = Choice n (plans parts.items)
node_plan (SizedPattern-F.Star n inner) = Loop n inner.value
node_plan (SizedPattern-F.Repeat n inner m k) = Copies n inner.value m k

abbrev pub plan_of : SizedPattern → Plan
plan_of = fold-SizedPattern Plan node_plan

-- the trees of parts
abbrev pub trees_laid : List SizedPattern → List Tree
trees_laid ps = map (λ p. tree_in (plan_of p)) ps
