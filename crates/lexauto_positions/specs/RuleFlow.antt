-- One step through the rules of a specification, as tests that compute. (This project's.)
use Rattle.std.specs.Prelude.{ℕ, zero, suc, ◌+◌, ◌||◌, ◌&&◌, ◌==◌, Bool, true, false, cond, List, [], ◌∷◌, take, Option, Some, None}
use Rattle.lex_semantics.specs.ByteSets.{has}
use Rattle.lex_semantics.specs.Tree.{Tree, Trees, Empty, Set, Cat, Alt, Star, Repeat, no_trees, tree}
use Rattle.lex_semantics.specs.Positions.{copies, positions}
use Rattle.lex_semantics.specs.Spec.{Rule}
use Rattle.lex_semantics.specs.Subsets.{positions_of_rule}
use Rattle.lexauto_positions.specs.Flow.{exits, enters}

abbrev pub trail_exits : Option Tree → (ℕ → Bool) → ℕ → Bool → Bool
trail_exits None S base i = i
trail_exits (Some t) S base i = exits t S base i

abbrev pub trail_enters : Option Tree → (ℕ → Bool) → ℕ → ℕ → Bool → Bool
trail_enters None S q base i = false
trail_enters (Some t) S q base i = enters t S q base i

-- The rule is left at its end. Some of its head was read by then.
abbrev pub rule_exits : Rule → (ℕ → Bool) → ℕ → Bool
rule_exits r S base = trail_exits r.trail S (base + positions r.head) (exits r.head S base false)

-- The position q of the rule is next, if the rule is entered where i holds.
abbrev pub rule_enters : Rule → (ℕ → Bool) → ℕ → ℕ → Bool → Bool
rule_enters r S q base i =
    enters r.head S q base i || trail_enters r.trail S q (base + positions r.head) (exits r.head S base false)

-- The position q of some rule is next; `on` are the rules that are entered, counted from i.
abbrev pub rules_enter : List Rule → (ℕ → Bool) → (ℕ → Bool) → ℕ → ℕ → ℕ → Bool
rules_enter [] on S q i base = false
rules_enter (r ∷ rs) on S q i base =
    rule_enters r S q base (on i) || rules_enter rs on S q (suc i) (base + positions_of_rule r)

-- the rules that are left at their ends, counted from i
abbrev pub rules_left : List Rule → (ℕ → Bool) → ℕ → ℕ → List ℕ
rules_left [] S i base = []
rules_left (r ∷ rs) S i base =
    cond (rule_exits r S base) (i ∷ rules_left rs S (suc i) (base + positions_of_rule r))
    (rules_left rs S (suc i) (base + positions_of_rule r))

-- all of the rules, or the first of them alone
abbrev pub chosen : Bool → List ℕ → List ℕ
chosen true l = l
chosen false l = take 1 l

abbrev pub copies_read : (ℕ → Bool) → ℕ → ℕ → ℕ → Bool
copies_read one base step zero = false
copies_read one base step (suc n) = one base || copies_read one (base + step) step n

-- The position q is the tree's, and reads the byte.
abbrev mutual
  pub reads : Tree → ℕ → ℕ → ℕ → Bool
  reads Empty b q base = false
  reads (Set s) b q base = has s b && (q == base)
  reads (Cat ts) b q base = each_read ts b q base
  reads (Alt ts) b q base = each_read ts b q base
  reads (Star t) b q base = reads t b q base
  reads (Repeat t m n) b q base = copies_read (reads t b q) base (positions t) (copies m n)

  pub each_read : Trees → ℕ → ℕ → ℕ → Bool
  each_read no_trees b q base = false
  each_read (tree t ts) b q base = reads t b q base || each_read ts b q (base + positions t)

abbrev pub trail_reads : Option Tree → ℕ → ℕ → ℕ → Bool
trail_reads None b q base = false
trail_reads (Some t) b q base = reads t b q base

abbrev pub rules_read : List Rule → ℕ → ℕ → ℕ → Bool
rules_read [] b q base = false
rules_read (r ∷ rs) b q base =
    (reads r.head b q base || trail_reads r.trail b q (base + positions r.head))
    || rules_read rs b q (base + positions_of_rule r)
