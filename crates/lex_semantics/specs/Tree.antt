-- Patterns as trees, and the words that they match. (POSIX, lex, Regular Expressions in lex.)
use Rattle.std.specs.Prelude.{◌≡◌, ℕ, zero, suc, ◌≤◌, List, [], ◌∷◌, ◌++◌, ◌⊎◌, Option, IfSome}
use Rattle.lex_semantics.specs.ByteSets.{ByteSet, IsIn}

mutual
  pub data Tree : Type 0 where
    -- no bytes
    Empty : Tree
    -- one byte of the set
    Set : ByteSet → Tree
    -- the parts in order
    Cat : Trees → Tree
    -- one of the parts
    Alt : Trees → Tree
    -- any number of times
    Star : Tree → Tree
    -- at least m times, and at most n times where there is an n
    Repeat : Tree → ℕ → Option ℕ → Tree

  pub data Trees : Type 0 where
    no_trees : Trees
    tree : Tree → Trees → Trees

-- the parts of a list
abbrev pub trees : List Tree → Trees
trees [] = no_trees
trees (t ∷ ts) = tree t (trees ts)

-- the joining of k lists: of P j, then of P (j + 1), and so on
abbrev pub Iterates : {X : Type 0} → (ℕ → List X → Type 0) → ℕ → ℕ → List X → Type 0
Iterates P j zero w = w ≡ []
Iterates {X} P j (suc k) w = (u v : List X) × (w ≡ u ++ v) × P j u × Iterates P (suc j) k v

-- a word of the tree's language
abbrev mutual
  pub In : Tree → List ℕ → Type 0
  In Empty w = w ≡ []
  In (Set s) w = (b : ℕ) × (w ≡ b ∷ []) × IsIn s b
  In (Cat ts) w = InEach ts w
  In (Alt ts) w = InSome ts w
  In (Star t) w = (k : ℕ) × Iterates (λ j. In t) 0 k w
  In (Repeat t m n) w = (k : ℕ) × (m ≤ k) × IfSome n (λ n. k ≤ n) × Iterates (λ j. In t) 0 k w

  -- the joining of words of the trees, in order
  pub InEach : Trees → List ℕ → Type 0
  InEach no_trees w = w ≡ []
  InEach (tree t ts) w = (u v : List ℕ) × (w ≡ u ++ v) × In t u × InEach ts v

  -- a word of one of the trees
  pub InSome : Trees → List ℕ → Type 0
  InSome no_trees w = ⊥
  InSome (tree t ts) w = In t w ⊎ InSome ts w
