-- One step through a tree, as tests that compute: what enters each part, and what leaves it. (This project's.)
use Rattle.std.specs.Prelude.{ℕ, zero, suc, ◌+◌, ◌-◌, ◌||◌, ◌&&◌, ◌==◌, Bool, true, false, Option, Some, None}
use Rattle.lex_semantics.specs.Tree.{Tree, Trees, Empty, Set, Cat, Alt, Star, Repeat, no_trees, tree}
use Rattle.lex_semantics.specs.Positions.{copies, positions}

abbrev pub is_zero : ℕ → Bool
is_zero zero = true
is_zero (suc n) = false

abbrev pub has_no_number : Option ℕ → Bool
has_no_number None = true
has_no_number (Some n) = false

-- Whether n copies are left, the first at `base` and each further one `step` on, where `leave` passes one of them and
-- after `needed` of them the others may be left out. `out`: they are left by now.
abbrev pub passes : (ℕ → Bool → Bool) → ℕ → ℕ → ℕ → Bool → Bool → ℕ → Bool
passes leave base step needed out i zero = out || (is_zero needed && i)
passes leave base step needed out i (suc n) =
    passes leave (base + step) step (needed - 1) (out || (is_zero needed && i)) (leave base i) n

-- Whether a copy of these is entered so that `come` holds. The last one is entered from its own end too, if it loops.
abbrev pub comes : (ℕ → Bool → Bool) → (ℕ → Bool → Bool) → Bool → ℕ → ℕ → Bool → ℕ → Bool
comes come leave loops base step i zero = false
comes come leave loops base step i (suc n) =
    come base (i || (loops && (is_zero n && leave base false)))
    || comes come leave loops (base + step) step (leave base i) n

-- The tree is left, if it is entered where i holds and S has the last positions.
abbrev mutual
  pub exits : Tree → (ℕ → Bool) → ℕ → Bool → Bool
  exits Empty S base i = i
  exits (Set s) S base i = S base
  exits (Cat ts) S base i = exits_each ts S base i
  exits (Alt ts) S base i = exits_some ts S base i
  exits (Star t) S base i = i || exits t S base false
  exits (Repeat t m n) S base i = passes (exits t S) base (positions t) m false i (copies m n)

  pub exits_each : Trees → (ℕ → Bool) → ℕ → Bool → Bool
  exits_each no_trees S base i = i
  exits_each (tree t ts) S base i = exits_each ts S (base + positions t) (exits t S base i)

  pub exits_some : Trees → (ℕ → Bool) → ℕ → Bool → Bool
  exits_some no_trees S base i = false
  exits_some (tree t ts) S base i = exits t S base i || exits_some ts S (base + positions t) i

-- The position q is next.
abbrev mutual
  pub enters : Tree → (ℕ → Bool) → ℕ → ℕ → Bool → Bool
  enters Empty S q base i = false
  enters (Set s) S q base i = i && (q == base)
  enters (Cat ts) S q base i = enters_each ts S q base i
  enters (Alt ts) S q base i = enters_some ts S q base i
  enters (Star t) S q base i = enters t S q base (i || exits t S base false)
  enters (Repeat t m n) S q base i =
      comes (enters t S q) (exits t S) (has_no_number n) base (positions t) i (copies m n)

  pub enters_each : Trees → (ℕ → Bool) → ℕ → ℕ → Bool → Bool
  enters_each no_trees S q base i = false
  enters_each (tree t ts) S q base i = enters t S q base i || enters_each ts S q (base + positions t) (exits t S base i)

  pub enters_some : Trees → (ℕ → Bool) → ℕ → ℕ → Bool → Bool
  enters_some no_trees S q base i = false
  enters_some (tree t ts) S q base i = enters t S q base i || enters_some ts S q (base + positions t) i
