-- Parts without positions, and one copy of many.
use Rattle.std.specs.Prelude.{◌≡◌, ℕ, zero, suc, ◌+◌, ◌-◌, ◌*◌, ◌<◌, ◌≤◌, ◌||◌, ◌&&◌, ◌==◌, Bool, true, false, Option, Some, None, IfSome}
use Rattle.std.proofs.Common.{refl, ap, sym, ◌∙◌, arith}
use Rattle.std.proofs.lemmas.Bool.{ne_eqb}
use Rattle.lex_semantics.specs.Tree.{Tree, Trees, Empty, Set, Cat, Alt, Star, Repeat, no_trees, tree}
use Rattle.lex_semantics.specs.Positions.{copies, positions, positions_of}
use Rattle.lex_semantics.specs.Shapes.{IsSoundTree, AreSoundTrees}
use Rattle.lexauto_positions.specs.Flow.{is_zero, has_no_number, passes, comes, exits, exits_each, exits_some, enters, enters_each, enters_some}

pub and_false : (b : Bool) → (b && false) ≡ false
and_false true = refl
and_false false = refl

pub or_false : (a : Bool) → (a || false) ≡ a
or_false true = refl
or_false false = refl

or_self : (a b : Bool) → (a || (a || b)) ≡ (a || b)
or_self true b = refl
or_self false b = refl

-- of a sum without positions each part has none
pub left_zero : (a b : ℕ) → a + b ≡ 0 → a ≡ 0
left_zero a b h = omega arith

pub right_zero : (a b : ℕ) → a + b ≡ 0 → b ≡ 0
right_zero a b h = omega arith

pub factor_zero : (c p : ℕ) → 1 ≤ c → c * p ≡ 0 → p ≡ 0
factor_zero zero p h e = absurd (omega arith)
factor_zero (suc c) p h e = left_zero p (c * p) (let q : suc c * p ≡ p + c * p = omega arith in sym q ∙ e)

bounds_some : (m : ℕ) (n : Option ℕ) → IfSome n (λ n. (m ≤ n) × (1 ≤ n)) → (m ≤ copies m n) × (1 ≤ copies m n)
bounds_some m None h = (grind arith, grind arith)
bounds_some m (Some n) h = h

module _ (leave : ℕ → Bool → Bool) (same : (b : ℕ) (i : Bool) → leave b i ≡ i) (step : ℕ) where
  pub passes_nothing : (base needed : ℕ) (out i : Bool) (c : ℕ) → needed ≤ c → passes leave base step needed out i c ≡ (out || i)
  passes_nothing base zero out i zero h = refl
  passes_nothing base (suc m) out i zero h = absurd (omega arith)
  passes_nothing base needed out i (suc c) h =
      passes_nothing (base + step) (needed - 1) (out || (is_zero needed && i)) (leave base i) c (omega arith)
      ∙ ap (λ j. (out || (is_zero needed && i)) || j) (same base i)
      ∙ joined out (is_zero needed) i
    where
      joined : (a z i : Bool) → ((a || (z && i)) || i) ≡ (a || i)
      joined true z i = refl
      joined false true true = refl
      joined false true false = refl
      joined false false i = refl

  pub comes_nothing : (come : ℕ → Bool → Bool) → ((b : ℕ) (i : Bool) → come b i ≡ false) → (loops : Bool) (base : ℕ) (i : Bool) (c : ℕ) → comes come leave loops base step i c ≡ false
  comes_nothing come none loops base i zero = refl
  comes_nothing come none loops base i (suc c) =
      ap (λ j. j || comes come leave loops (base + step) step (leave base i) c) (none base (i || (loops && (is_zero c && leave base false))))
      ∙ comes_nothing come none loops (base + step) (leave base i) c

module _ (S : ℕ → Bool) where
  mutual
    -- a tree without positions is left just where it is entered
    pub nothing_left : (t : Tree) → IsSoundTree t → positions t ≡ 0 → (base : ℕ) (i : Bool) → exits t S base i ≡ i
    nothing_left Empty h z base i = refl
    nothing_left (Set s) h z base i = absurd (omega (arith, z))
    nothing_left (Cat ts) h z base i = nothing_left_each ts h.0 z base i
    nothing_left (Alt no_trees) h z base i = absurd (h.1 refl)
    nothing_left (Alt (tree t ts)) h z base i =
        ap (λ j. j || exits_some ts S (base + positions t) i) (nothing_left t h.0.0 (left_zero (positions t) (positions_of ts) z) base i)
        ∙ nothing_left_some ts h.0.1 (right_zero (positions t) (positions_of ts) z) (base + positions t) i
    nothing_left (Star t) h z base i = ap (λ j. i || j) (nothing_left t h z base false) ∙ or_false i
    nothing_left (Repeat t m n) h z base i =
        let b = bounds_some m n h.1 in
        passes_nothing (exits t S) (nothing_left t h.0 (factor_zero (copies m n) (positions t) b.1 z)) (positions t) base m false i (copies m n) b.0

    nothing_left_each : (ts : Trees) → AreSoundTrees ts → positions_of ts ≡ 0 → (base : ℕ) (i : Bool) → exits_each ts S base i ≡ i
    nothing_left_each no_trees h z base i = refl
    nothing_left_each (tree t ts) h z base i =
        nothing_left_each ts h.1 (right_zero (positions t) (positions_of ts) z) (base + positions t) (exits t S base i)
        ∙ nothing_left t h.0 (left_zero (positions t) (positions_of ts) z) base i

    nothing_left_some : (ts : Trees) → AreSoundTrees ts → positions_of ts ≡ 0 → (base : ℕ) (i : Bool) → (i || exits_some ts S base i) ≡ i
    nothing_left_some no_trees h z base i = or_false i
    nothing_left_some (tree t ts) h z base i =
        ap (λ j. i || (j || exits_some ts S (base + positions t) i)) (nothing_left t h.0 (left_zero (positions t) (positions_of ts) z) base i)
        ∙ or_self i (exits_some ts S (base + positions t) i)
        ∙ nothing_left_some ts h.1 (right_zero (positions t) (positions_of ts) z) (base + positions t) i

  module _ (q : ℕ) where
    mutual
      -- and nothing in it is next
      pub nothing_comes : (t : Tree) → IsSoundTree t → positions t ≡ 0 → (base : ℕ) (i : Bool) → enters t S q base i ≡ false
      nothing_comes Empty h z base i = refl
      nothing_comes (Set s) h z base i = absurd (omega (arith, z))
      nothing_comes (Cat ts) h z base i = nothing_comes_each ts h.0 z base i
      nothing_comes (Alt ts) h z base i = nothing_comes_some ts h.0 z base i
      nothing_comes (Star t) h z base i = nothing_comes t h z base (i || exits t S base false)
      nothing_comes (Repeat t m n) h z base i =
          let b = bounds_some m n h.1 in
          comes_nothing (exits t S) (nothing_left t h.0 (factor_zero (copies m n) (positions t) b.1 z)) (positions t) (enters t S q) (nothing_comes t h.0 (factor_zero (copies m n) (positions t) b.1 z)) (has_no_number n) base i (copies m n)

      nothing_comes_each : (ts : Trees) → AreSoundTrees ts → positions_of ts ≡ 0 → (base : ℕ) (i : Bool) → enters_each ts S q base i ≡ false
      nothing_comes_each no_trees h z base i = refl
      nothing_comes_each (tree t ts) h z base i =
          ap (λ j. j || enters_each ts S q (base + positions t) (exits t S base i)) (nothing_comes t h.0 (left_zero (positions t) (positions_of ts) z) base i)
          ∙ nothing_comes_each ts h.1 (right_zero (positions t) (positions_of ts) z) (base + positions t) (exits t S base i)

      nothing_comes_some : (ts : Trees) → AreSoundTrees ts → positions_of ts ≡ 0 → (base : ℕ) (i : Bool) → enters_some ts S q base i ≡ false
      nothing_comes_some no_trees h z base i = refl
      nothing_comes_some (tree t ts) h z base i =
          ap (λ j. j || enters_some ts S q (base + positions t) i) (nothing_comes t h.0 (left_zero (positions t) (positions_of ts) z) base i)
          ∙ nothing_comes_some ts h.1 (right_zero (positions t) (positions_of ts) z) (base + positions t) i

-- one copy of those that are left
pub one_copy : (c k : ℕ) → k < c → c - k ≡ suc (c - (k + 1))
one_copy c k h = omega arith

pub copy_place : (base c k p : ℕ) → k < c → base + (c - k) * p ≡ base + p + (c - (k + 1)) * p
copy_place base c k p h =
    let one : c - k ≡ suc (c - (k + 1)) = omega arith in
    let all : suc (c - (k + 1)) * p ≡ p + (c - (k + 1)) * p = omega arith in
    rw (one, all) (omega arith)

pub passes_step : (leave : ℕ → Bool → Bool) (base step needed : ℕ) (out i : Bool) (c k : ℕ) → k < c
    → passes leave base step needed out i (c - k) ≡ passes leave (base + step) step (needed - 1) (out || (is_zero needed && i)) (leave base i) (c - (k + 1))
passes_step leave base step needed out i c k h = ap (passes leave base step needed out i) (one_copy c k h)

pub comes_step : (come leave : ℕ → Bool → Bool) (loops : Bool) (base step : ℕ) (i : Bool) (c k : ℕ) → k < c
    → comes come leave loops base step i (c - k)
    ≡ (come base (i || (loops && (is_zero (c - (k + 1)) && leave base false))) || comes come leave loops (base + step) step (leave base i) (c - (k + 1)))
comes_step come leave loops base step i c k h = ap (comes come leave loops base step i) (one_copy c k h)

-- whether the copies are left by now, by the branches of the test
pub left_before : (o l n : Bool) (m : ℕ) → o ≡ true → n ≡ true → n ≡ (o || (is_zero m && l))
left_before o l n m h e = rw (h, e) refl

pub left_here : (o l n : Bool) (m : ℕ) → o ≡ false → m ≡ 0 → n ≡ l → n ≡ (o || (is_zero m && l))
left_here o l n m h z e = rw (h, z, e) refl

pub not_left : (o l n : Bool) (m : ℕ) → o ≡ false → n ≡ (m == 0) → (m ≡ 0 → ⊥) → n ≡ (o || (is_zero m && l))
not_left o l n zero h e z = absurd (z refl)
not_left o l n (suc m) h e z = rw h (e ∙ ne_eqb (suc m) 0 (λ k. z k))

pub or_right : (a b n : Bool) → a ≡ false → n ≡ b → n ≡ (a || b)
or_right a b n h e = e ∙ rw h refl

pub and_right : (a b n : Bool) → a ≡ true → n ≡ b → n ≡ (a && b)
and_right a b n h e = e ∙ rw h refl

pub and_left : (a b n : Bool) → a ≡ false → n ≡ a → n ≡ (a && b)
and_left a b n h e = e ∙ rw h refl

pub or_assoc : (a b c : Bool) → ((a || b) || c) ≡ (a || (b || c))
or_assoc true b c = refl
or_assoc false b c = refl

pub and_assoc : (a b c : Bool) → ((a && b) && c) ≡ (a && (b && c))
and_assoc true b c = refl
and_assoc false b c = refl
