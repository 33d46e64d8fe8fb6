-- The tests of a step say what enters and what leaves a position automaton.
use Rattle.std.specs.Prelude.{◌≡◌, ◌↔◌, ℕ, zero, suc, ◌+◌, ◌-◌, ◌*◌, max, ◌||◌, ◌&&◌, ◌==◌, Bool, true, false, ◌⊎◌, Option, Some, None}
use Rattle.std.proofs.Common.{inl, inr, refl, sym, subst, arith}
use Rattle.std.proofs.lemmas.Bool.{eqb-true, eq-eqb}
use Rattle.lex_semantics.specs.Tree.{Tree, Trees, Empty, Set, Cat, Alt, Star, Repeat, no_trees, tree}
use Rattle.lex_semantics.specs.Positions.{copies, positions}
use Rattle.lexauto_positions.specs.PositionAutomaton.{Quad, fail, skip, cat, plus, opt, times, chain, repeated, quad, quad_all, quad_one}
use Rattle.lexauto_positions.specs.Flows.{Exits, Enters}
use Rattle.lexauto_positions.specs.Flow.{has_no_number, passes, comes, exits, exits_each, exits_some, enters, enters_each, enters_some}
use Rattle.lexauto_positions.proofs.Flows.{exits_skip, exits_leaf, enters_leaf, exits_cat, enters_cat, exits_alt, enters_alt, enters_plus, exits_opt}
use Rattle.lexauto_positions.proofs.Copies.{or_false}

-- going from one statement to the next

pub both : {A B C : Type 0} → A ↔ B → B ↔ C → A ↔ C
both f g = (λ a. g.0 (f.0 a), λ c. f.1 (g.1 c))

pub back : {A B : Type 0} → A ↔ B → B ↔ A
back f = (f.1, f.0)

pub either : {A B C D : Type 0} → A ↔ C → B ↔ D → (A ⊎ B) ↔ (C ⊎ D)
either f g = (
  λ h. elim h [ inl a ↦ inl (f.0 a) | inr b ↦ inr (g.0 b) ],
  λ h. elim h [ inl c ↦ inl (f.1 c) | inr d ↦ inr (g.1 d) ],
)

pub no_true : {A : Type 0} → false ≡ true → A
no_true e = absurd (no e)
  where
    no : false ≡ true → ⊥
    no p = cc

pub or_is : (a b : Bool) → ((a || b) ≡ true) ↔ ((a ≡ true) ⊎ (b ≡ true))
or_is true b = (λ h. inl refl, λ h. refl)
or_is false b = (λ h. inr h, λ h. elim h [ inl e ↦ no_true e | inr e ↦ e ])

pub and_is : (a b : Bool) → ((a && b) ≡ true) ↔ ((a ≡ true) × (b ≡ true))
and_is true b = (λ h. (refl, h), λ h. h.1)
and_is false b = (λ h. no_true h, λ h. no_true h.0)

pub eq_is : (a b : ℕ) → ((a == b) ≡ true) ↔ (a ≡ b)
eq_is a b = (λ h. eqb-true a b h, λ h. eq-eqb a b h)

pub never : (false ≡ true) ↔ ⊥
never = (λ h. no_true h, λ h. absurd h)

pub gone : {A B : Type 0} → (A → ⊥) → (A ⊎ B) ↔ B
gone out = (λ h. elim h [ inl a ↦ absurd (out a) | inr b ↦ b ], λ b. inr b)

pub kept : {A B : Type 0} → (B → ⊥) → (A ⊎ B) ↔ A
kept out = (λ h. elim h [ inl a ↦ a | inr b ↦ absurd (out b) ], λ a. inl a)

pub grouped : {A B C : Type 0} → ((A ⊎ B) ⊎ C) ↔ (A ⊎ (B ⊎ C))
grouped = (
  λ h. elim h [ inl (inl a) ↦ inl a | inl (inr b) ↦ inr (inl b) | inr c ↦ inr (inr c) ],
  λ h. elim h [ inl a ↦ inl (inl a) | inr (inl b) ↦ inl (inr b) | inr (inr c) ↦ inr c ],
)

module _ (S : ℕ → Bool) where
  abbrev In : ℕ → Type 0
  In p = S p ≡ true

  pub exits_by : (x : Quad) {i j : Type 0} → i ↔ j → Exits x i In ↔ Exits x j In
  exits_by x f = (
    λ h. elim h [ inl a ↦ inl (f.0 a.0, a.1) | inr b ↦ inr b ],
    λ h. elim h [ inl a ↦ inl (f.1 a.0, a.1) | inr b ↦ inr b ],
  )

  pub enters_by : (x : Quad) (q : ℕ) {i j : Type 0} → i ↔ j → Enters x i In q ↔ Enters x j In q
  enters_by x q f = (
    λ h. elim h [ inl a ↦ inl (f.0 a.0, a.1) | inr b ↦ inr b ],
    λ h. elim h [ inl a ↦ inl (f.1 a.0, a.1) | inr b ↦ inr b ],
  )

  pub exits_fail : (i : Type 0) → Exits fail i In ↔ ⊥
  exits_fail i = (λ h. elim h [ inl a ↦ a.1 | inr b ↦ b.2 ], λ h. absurd h)

  enters_fail : (i : Type 0) (q : ℕ) → Enters fail i In q ↔ ⊥
  enters_fail i q = (λ h. elim h [ inl a ↦ a.1 | inr b ↦ b.2 ], λ h. absurd h)

  pub enters_skip : (i : Type 0) (q : ℕ) → Enters skip i In q ↔ ⊥
  enters_skip i q = (λ h. elim h [ inl a ↦ a.1 | inr b ↦ b.2 ], λ h. absurd h)

  -- a loop that may be left out is left where it is entered, or at its own end
  exits_loop : (x : Quad) (i : Type 0) → Exits (opt (plus x)) i In ↔ (i ⊎ Exits x ⊥ In)
  exits_loop x i = (
    λ h. elim h [ inl a ↦ inl a.0 | inr b ↦ inr (inr b) ],
    λ h. elim h [ inl a ↦ inl (a, tt) | inr (inl e) ↦ absurd e.0 | inr (inr e) ↦ inr e ],
  )

  exits_loop_once : (x : Quad) (i : Type 0) → Exits (opt (plus x)) i In ↔ (i ⊎ Exits x i In)
  exits_loop_once x i = (
    λ h. elim h [ inl a ↦ inl a.0 | inr b ↦ inr (inr b) ],
    λ h. elim h [ inl a ↦ inl (a, tt) | inr (inl e) ↦ inl (e.0, tt) | inr (inr e) ↦ inr e ],
  )

  module _ (leave : ℕ → Bool → Bool) (x : ℕ → Quad) (base s : ℕ) (each : (j : ℕ) (i : Bool) → (leave (base + j * s) i ≡ true) ↔ Exits (x j) (i ≡ true) In) where
    up : (j : ℕ) → base + j * s + s ≡ base + suc j * s
    up j = omega arith

    less : (m : ℕ) → suc m - 1 ≡ m
    less m = omega arith

    passes_times : (n j m : ℕ) (out i : Bool) → (passes leave (base + j * s) s m out i n ≡ true) ↔ ((out ≡ true) ⊎ Exits (times x j m n) (i ≡ true) In)
    passes_times zero j zero out i = both (or_is out i) (either ((λ h. h), (λ h. h)) (back (exits_skip In (i ≡ true))))
    passes_times zero j (suc m) out i = both (or_is out false) (either ((λ h. h), (λ h. h)) (both never (back (exits_fail (i ≡ true)))))
    passes_times (suc n) j zero out i =
        let P : ℕ → Type 0 = λ b. (passes leave b s 0 (out || i) (leave (base + j * s) i) n ≡ true) ↔ (((out || i) ≡ true) ⊎ Exits (times x (suc j) zero n) (leave (base + j * s) i ≡ true) In) in
        let more = subst P (sym (up j)) (passes_times n (suc j) zero (out || i) (leave (base + j * s) i)) in
        both more (both (either (or_is out i) (both (exits_by (times x (suc j) zero n) (each j i)) (back (exits_cat In (x j) (times x (suc j) zero n) (i ≡ true)))))
        (both grouped (either ((λ h. h), (λ h. h)) (back (exits_opt In (cat (x j) (times x (suc j) zero n)) (i ≡ true))))))
    passes_times (suc n) j (suc m) out i =
        let P : ℕ → ℕ → Type 0 = λ b k. (passes leave b s k (out || false) (leave (base + j * s) i) n ≡ true) ↔ (((out || false) ≡ true) ⊎ Exits (times x (suc j) m n) (leave (base + j * s) i ≡ true) In) in
        let more = subst (λ (k : ℕ). P (base + j * s + s) k) (sym (less m)) (subst (λ (b : ℕ). P b m) (sym (up j)) (passes_times n (suc j) m (out || false) (leave (base + j * s) i))) in
        both more (either (both (or_is out false) (kept (λ h. no_true h))) (both (exits_by (times x (suc j) m n) (each j i)) (back (exits_cat In (x j) (times x (suc j) m n) (i ≡ true)))))

    passes_chain : (m j : ℕ) (out i : Bool) → (passes leave (base + j * s) s (suc m) out i (suc m) ≡ true) ↔ ((out ≡ true) ⊎ Exits (chain x j m) (i ≡ true) In)
    passes_chain zero j out i = both (or_is (out || false) (leave (base + j * s) i)) (either (both (or_is out false) (kept (λ h. no_true h))) (each j i))
    passes_chain (suc m) j out i =
        let P : ℕ → ℕ → Type 0 = λ b k. (passes leave b s k (out || false) (leave (base + j * s) i) (suc m) ≡ true) ↔ (((out || false) ≡ true) ⊎ Exits (chain x (suc j) m) (leave (base + j * s) i ≡ true) In) in
        let more = subst (λ (k : ℕ). P (base + j * s + s) k) (sym (less (suc m))) (subst (λ (b : ℕ). P b (suc m)) (sym (up j)) (passes_chain m (suc j) (out || false) (leave (base + j * s) i))) in
        both more (either (both (or_is out false) (kept (λ h. no_true h))) (both (exits_by (chain x (suc j) m) (each j i)) (back (exits_cat In (x j) (chain x (suc j) m) (i ≡ true)))))

    at_first : base ≡ base + 0 * s
    at_first = omega arith

    pub passes_is : (m : ℕ) (n : Option ℕ) (i : Bool) → (passes leave base s m false i (copies m n) ≡ true) ↔ Exits (repeated x m n) (i ≡ true) In
    passes_is m (Some n) i =
        let P : ℕ → Type 0 = λ b. (passes leave b s m false i n ≡ true) ↔ ((false ≡ true) ⊎ Exits (times x 0 m n) (i ≡ true) In) in
        both (subst P (sym at_first) (passes_times n 0 m false i)) (gone (λ h. no_true h))
    passes_is zero None i =
        let P : ℕ → Type 0 = λ b. (leave b i ≡ true) ↔ Exits (x 0) (i ≡ true) In in
        both (or_is i (leave base i)) (both (either ((λ h. h), (λ h. h)) (subst P (sym at_first) (each 0 i))) (back (exits_loop_once (x 0) (i ≡ true))))
    passes_is (suc m) None i =
        let same : max (suc m) 1 ≡ suc m = grind arith in
        let P : ℕ → ℕ → Type 0 = λ b k. (passes leave b s (suc m) false i k ≡ true) ↔ ((false ≡ true) ⊎ Exits (chain x 0 m) (i ≡ true) In) in
        both (subst (λ (k : ℕ). P base k) (sym same) (subst (λ (b : ℕ). P b (suc m)) (sym at_first) (passes_chain m 0 false i))) (gone (λ h. no_true h))

    module _ (q : ℕ) (come : ℕ → Bool → Bool) (comes_each : (j : ℕ) (i : Bool) → (come (base + j * s) i ≡ true) ↔ Enters (x j) (i ≡ true) In q) where
      comes_outside : (j : ℕ) (i : Bool) → (come (base + j * s) (i || false) ≡ true) ↔ Enters (x j) (i ≡ true) In q
      comes_outside j i = rw or_false (comes_each j i)

      comes_times : (n j m : ℕ) (i : Bool) → (comes come leave false (base + j * s) s i n ≡ true) ↔ Enters (times x j m n) (i ≡ true) In q
      comes_times zero j zero i = both never (back (enters_skip (i ≡ true) q))
      comes_times zero j (suc m) i = both never (back (enters_fail (i ≡ true) q))
      comes_times (suc n) j zero i =
          let P : ℕ → Type 0 = λ b. (comes come leave false b s (leave (base + j * s) i) n ≡ true) ↔ Enters (times x (suc j) zero n) (leave (base + j * s) i ≡ true) In q in
          let more = subst P (sym (up j)) (comes_times n (suc j) zero (leave (base + j * s) i)) in
          both (or_is (come (base + j * s) (i || false)) (comes come leave false (base + j * s + s) s (leave (base + j * s) i) n))
          (both (either (comes_outside j i) (both more (enters_by (times x (suc j) zero n) q (each j i)))) (back (enters_cat In (x j) (times x (suc j) zero n) (i ≡ true) q)))
      comes_times (suc n) j (suc m) i =
          let P : ℕ → Type 0 = λ b. (comes come leave false b s (leave (base + j * s) i) n ≡ true) ↔ Enters (times x (suc j) m n) (leave (base + j * s) i ≡ true) In q in
          let more = subst P (sym (up j)) (comes_times n (suc j) m (leave (base + j * s) i)) in
          both (or_is (come (base + j * s) (i || false)) (comes come leave false (base + j * s + s) s (leave (base + j * s) i) n))
          (both (either (comes_outside j i) (both more (enters_by (times x (suc j) m n) q (each j i)))) (back (enters_cat In (x j) (times x (suc j) m n) (i ≡ true) q)))

      comes_loop : (j : ℕ) (i : Bool) → (come (base + j * s) (i || leave (base + j * s) false) ≡ true) ↔ Enters (plus (x j)) (i ≡ true) In q
      comes_loop j i =
          both (comes_each j (i || leave (base + j * s) false))
          (both (enters_by (x j) q (both (or_is i (leave (base + j * s) false)) (either ((λ h. h), (λ h. h)) (both (each j false) (exits_by (x j) never)))))
          (back (enters_plus In (x j) (i ≡ true) q)))

      comes_chain : (m j : ℕ) (i : Bool) → (comes come leave true (base + j * s) s i (suc m) ≡ true) ↔ Enters (chain x j m) (i ≡ true) In q
      comes_chain zero j i = both (or_is (come (base + j * s) (i || leave (base + j * s) false)) false) (both (kept (λ h. no_true h)) (comes_loop j i))
      comes_chain (suc m) j i =
          let P : ℕ → Type 0 = λ b. (comes come leave true b s (leave (base + j * s) i) (suc m) ≡ true) ↔ Enters (chain x (suc j) m) (leave (base + j * s) i ≡ true) In q in
          let more = subst P (sym (up j)) (comes_chain m (suc j) (leave (base + j * s) i)) in
          both (or_is (come (base + j * s) (i || false)) (comes come leave true (base + j * s + s) s (leave (base + j * s) i) (suc m)))
          (both (either (comes_outside j i) (both more (enters_by (chain x (suc j) m) q (each j i)))) (back (enters_cat In (x j) (chain x (suc j) m) (i ≡ true) q)))

      pub comes_is : (m : ℕ) (n : Option ℕ) (i : Bool) → (comes come leave (has_no_number n) base s i (copies m n) ≡ true) ↔ Enters (repeated x m n) (i ≡ true) In q
      comes_is m (Some n) i =
          let P : ℕ → Type 0 = λ b. (comes come leave false b s i n ≡ true) ↔ Enters (times x 0 m n) (i ≡ true) In q in
          subst P (sym at_first) (comes_times n 0 m i)
      comes_is zero None i =
          let P : ℕ → Type 0 = λ b. (comes come leave true b s i 1 ≡ true) ↔ Enters (chain x 0 0) (i ≡ true) In q in
          subst P (sym at_first) (comes_chain 0 0 i)
      comes_is (suc m) None i =
          let same : max (suc m) 1 ≡ suc m = grind arith in
          let P : ℕ → ℕ → Type 0 = λ b k. (comes come leave true b s i k ≡ true) ↔ Enters (chain x 0 m) (i ≡ true) In q in
          subst (λ (k : ℕ). P base k) (sym same) (subst (λ (b : ℕ). P b (suc m)) (sym at_first) (comes_chain m 0 i))

  mutual
    pub exits_is : (t : Tree) (base : ℕ) (i : Bool) → (exits t S base i ≡ true) ↔ Exits (quad t base) (i ≡ true) In
    exits_is Empty base i = back (exits_skip In (i ≡ true))
    exits_is (Set s) base i = back (exits_leaf In s base (i ≡ true))
    exits_is (Cat ts) base i = exits_each_is ts base i
    exits_is (Alt ts) base i = exits_some_is ts base i
    exits_is (Star t) base i =
        both (or_is i (exits t S base false))
        (both (either ((λ h. h), (λ h. h)) (both (exits_is t base false) (exits_by (quad t base) never))) (back (exits_loop (quad t base) (i ≡ true))))
    exits_is (Repeat t m n) base i =
        passes_is (exits t S) (λ j. quad t (base + j * positions t)) base (positions t) (λ j b. exits_is t (base + j * positions t) b) m n i

    exits_each_is : (ts : Trees) (base : ℕ) (i : Bool) → (exits_each ts S base i ≡ true) ↔ Exits (quad_all ts base) (i ≡ true) In
    exits_each_is no_trees base i = back (exits_skip In (i ≡ true))
    exits_each_is (tree t ts) base i =
        both (exits_each_is ts (base + positions t) (exits t S base i))
        (both (exits_by (quad_all ts (base + positions t)) (exits_is t base i)) (back (exits_cat In (quad t base) (quad_all ts (base + positions t)) (i ≡ true))))

    exits_some_is : (ts : Trees) (base : ℕ) (i : Bool) → (exits_some ts S base i ≡ true) ↔ Exits (quad_one ts base) (i ≡ true) In
    exits_some_is no_trees base i = both never (back (exits_fail (i ≡ true)))
    exits_some_is (tree t ts) base i =
        both (or_is (exits t S base i) (exits_some ts S (base + positions t) i))
        (both (either (exits_is t base i) (exits_some_is ts (base + positions t) i)) (back (exits_alt In (quad t base) (quad_one ts (base + positions t)) (i ≡ true))))

  module _ (q : ℕ) where
    mutual
      pub enters_is : (t : Tree) (base : ℕ) (i : Bool) → (enters t S q base i ≡ true) ↔ Enters (quad t base) (i ≡ true) In q
      enters_is Empty base i = both never (back (enters_skip (i ≡ true) q))
      enters_is (Set s) base i = both (and_is i (q == base)) (both ((λ h. (h.0, (eq_is q base).0 h.1)), (λ h. (h.0, (eq_is q base).1 h.1))) (back (enters_leaf In s base (i ≡ true) q)))
      enters_is (Cat ts) base i = enters_each_is ts base i
      enters_is (Alt ts) base i = enters_some_is ts base i
      enters_is (Star t) base i =
          both (enters_is t base (i || exits t S base false))
          (both (enters_by (quad t base) q (both (or_is i (exits t S base false)) (either ((λ h. h), (λ h. h)) (both (exits_is t base false) (exits_by (quad t base) never)))))
          (back (enters_plus In (quad t base) (i ≡ true) q)))
      enters_is (Repeat t m n) base i =
          comes_is (exits t S) (λ j. quad t (base + j * positions t)) base (positions t) (λ j b. exits_is t (base + j * positions t) b)
          q (enters t S q) (λ j b. enters_is t (base + j * positions t) b) m n i

      enters_each_is : (ts : Trees) (base : ℕ) (i : Bool) → (enters_each ts S q base i ≡ true) ↔ Enters (quad_all ts base) (i ≡ true) In q
      enters_each_is no_trees base i = both never (back (enters_skip (i ≡ true) q))
      enters_each_is (tree t ts) base i =
          both (or_is (enters t S q base i) (enters_each ts S q (base + positions t) (exits t S base i)))
          (both (either (enters_is t base i) (both (enters_each_is ts (base + positions t) (exits t S base i)) (enters_by (quad_all ts (base + positions t)) q (exits_is t base i))))
          (back (enters_cat In (quad t base) (quad_all ts (base + positions t)) (i ≡ true) q)))

      enters_some_is : (ts : Trees) (base : ℕ) (i : Bool) → (enters_some ts S q base i ≡ true) ↔ Enters (quad_one ts base) (i ≡ true) In q
      enters_some_is no_trees base i = both never (back (enters_fail (i ≡ true) q))
      enters_some_is (tree t ts) base i =
          both (or_is (enters t S q base i) (enters_some ts S q (base + positions t) i))
          (both (either (enters_is t base i) (enters_some_is ts (base + positions t) i)) (back (enters_alt In (quad t base) (quad_one ts (base + positions t)) (i ≡ true) q)))
