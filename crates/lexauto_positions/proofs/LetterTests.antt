-- The positions that read a byte are those whose letter it is.
use Rattle.std.specs.Prelude.{◌≡◌, ◌↔◌, ℕ, zero, suc, ◌+◌, ◌-◌, ◌*◌, ◌<◌, max, ◌||◌, ◌==◌, Bool, true, false, List, [], ◌∷◌, Option, Some, None}
use Rattle.std.proofs.Common.{refl, ap, sym, subst, ◌∙◌, arith}
use Rattle.lex_semantics.specs.ByteSets.{has}
use Rattle.lex_semantics.specs.Tree.{Tree, Trees, Empty, Set, Cat, Alt, Star, Repeat, no_trees, tree}
use Rattle.lex_semantics.specs.Positions.{copies, positions, positions_of}
use Rattle.lex_semantics.specs.Spec.{Rule}
use Rattle.lex_semantics.specs.Subsets.{positions_of_rule}
use Rattle.lexauto_positions.specs.PositionAutomaton.{Quad, times, chain, repeated, quad, quad_all, quad_one}
use Rattle.lexauto_positions.specs.RuleAutomaton.{trail_quad, active_quad, every}
use Rattle.lexauto_positions.specs.RuleFlow.{copies_read, reads, each_read, trail_reads, rules_read}
use Rattle.lexauto_positions.proofs.Copies.{left_zero, right_zero, factor_zero, one_copy}
use Rattle.lexauto_positions.proofs.FlowMeaning.{both, either, or_is, and_is, eq_is, never, kept, no_true}

module _ (b q : ℕ) where
  copies_none : (one : ℕ → Bool) → ((base : ℕ) → one base ≡ false) → (base step n : ℕ) → copies_read one base step n ≡ false
  copies_none one no_one base step zero = refl
  copies_none one no_one base step (suc n) = ap (λ j. j || copies_read one (base + step) step n) (no_one base) ∙ copies_none one no_one (base + step) step n

  copies_zero : (one : ℕ → Bool) (p : ℕ) → (p ≡ 0 → (base : ℕ) → one base ≡ false) → (c : ℕ) → c * p ≡ 0 → (base step : ℕ) → copies_read one base step c ≡ false
  copies_zero one p none zero e base step = refl
  copies_zero one p none (suc c) e base step = copies_none one (none (factor_zero (suc c) p (omega arith) e)) base step (suc c)

  mutual
    -- a tree without positions reads nothing
    pub nothing_read : (t : Tree) → positions t ≡ 0 → (base : ℕ) → reads t b q base ≡ false
    nothing_read Empty z base = refl
    nothing_read (Set s) z base = absurd (omega (arith, z))
    nothing_read (Cat ts) z base = nothing_read_each ts z base
    nothing_read (Alt ts) z base = nothing_read_each ts z base
    nothing_read (Star t) z base = nothing_read t z base
    nothing_read (Repeat t m n) z base = copies_zero (reads t b q) (positions t) (λ e. nothing_read t e) (copies m n) z base (positions t)

    nothing_read_each : (ts : Trees) → positions_of ts ≡ 0 → (base : ℕ) → each_read ts b q base ≡ false
    nothing_read_each no_trees z base = refl
    nothing_read_each (tree t ts) z base =
        ap (λ j. j || each_read ts b q (base + positions t)) (nothing_read t (left_zero (positions t) (positions_of ts) z) base)
        ∙ nothing_read_each ts (right_zero (positions t) (positions_of ts) z) (base + positions t)

pub read_step : (one : ℕ → Bool) (base step c k : ℕ) → k < c → copies_read one base step (c - k) ≡ (one base || copies_read one (base + step) step (c - (k + 1)))
read_step one base step c k h = ap (copies_read one base step) (one_copy c k h)

module _ (b : ℕ) (lt : b < 256) (q : ℕ) where
  module _ (one : ℕ → Bool) (x : ℕ → Quad) (base s : ℕ) (each : (j : ℕ) → (one (base + j * s) ≡ true) ↔ (x j).letter (b, q)) where
    up : (j : ℕ) → base + j * s + s ≡ base + suc j * s
    up j = omega arith

    copies_times : (n j m : ℕ) → (copies_read one (base + j * s) s n ≡ true) ↔ (times x j m n).letter (b, q)
    copies_times zero j zero = never
    copies_times zero j (suc m) = never
    copies_times (suc n) j zero =
        let P : ℕ → Type 0 = λ k. (copies_read one k s n ≡ true) ↔ (times x (suc j) zero n).letter (b, q) in
        both (or_is (one (base + j * s)) (copies_read one (base + j * s + s) s n)) (either (each j) (subst P (sym (up j)) (copies_times n (suc j) zero)))
    copies_times (suc n) j (suc m) =
        let P : ℕ → Type 0 = λ k. (copies_read one k s n ≡ true) ↔ (times x (suc j) m n).letter (b, q) in
        both (or_is (one (base + j * s)) (copies_read one (base + j * s + s) s n)) (either (each j) (subst P (sym (up j)) (copies_times n (suc j) m)))

    copies_chain : (m j : ℕ) → (copies_read one (base + j * s) s (suc m) ≡ true) ↔ (chain x j m).letter (b, q)
    copies_chain zero j = both (or_is (one (base + j * s)) false) (both (kept (λ h. no_true h)) (each j))
    copies_chain (suc m) j =
        let P : ℕ → Type 0 = λ k. (copies_read one k s (suc m) ≡ true) ↔ (chain x (suc j) m).letter (b, q) in
        both (or_is (one (base + j * s)) (copies_read one (base + j * s + s) s (suc m))) (either (each j) (subst P (sym (up j)) (copies_chain m (suc j))))

    at_first : base ≡ base + 0 * s
    at_first = omega arith

    copies_is : (m : ℕ) (n : Option ℕ) → (copies_read one base s (copies m n) ≡ true) ↔ (repeated x m n).letter (b, q)
    copies_is m (Some n) = let P : ℕ → Type 0 = λ k. (copies_read one k s n ≡ true) ↔ (times x 0 m n).letter (b, q) in subst P (sym at_first) (copies_times n 0 m)
    copies_is zero None = let P : ℕ → Type 0 = λ k. (copies_read one k s 1 ≡ true) ↔ (chain x 0 0).letter (b, q) in subst P (sym at_first) (copies_chain 0 0)
    copies_is (suc m) None =
        let same : max (suc m) 1 ≡ suc m = grind arith in
        let P : ℕ → ℕ → Type 0 = λ k n. (copies_read one k s n ≡ true) ↔ (chain x 0 m).letter (b, q) in
        subst (λ (n : ℕ). P base n) (sym same) (subst (λ (k : ℕ). P k (suc m)) (sym at_first) (copies_chain m 0))

  mutual
    pub reads_is : (t : Tree) (base : ℕ) → (reads t b q base ≡ true) ↔ (quad t base).letter (b, q)
    reads_is Empty base = never
    reads_is (Set s) base = both (and_is (has s b) (q == base)) ((λ h. ((eq_is q base).0 h.1, (lt, h.0))), (λ h. (h.1.1, (eq_is q base).1 h.0)))
    reads_is (Cat ts) base = each_is ts base
    reads_is (Alt ts) base = some_is ts base
    reads_is (Star t) base = reads_is t base
    reads_is (Repeat t m n) base = copies_is (reads t b q) (λ j. quad t (base + j * positions t)) base (positions t) (λ j. reads_is t (base + j * positions t)) m n

    each_is : (ts : Trees) (base : ℕ) → (each_read ts b q base ≡ true) ↔ (quad_all ts base).letter (b, q)
    each_is no_trees base = never
    each_is (tree t ts) base = both (or_is (reads t b q base) (each_read ts b q (base + positions t))) (either (reads_is t base) (each_is ts (base + positions t)))

    some_is : (ts : Trees) (base : ℕ) → (each_read ts b q base ≡ true) ↔ (quad_one ts base).letter (b, q)
    some_is no_trees base = never
    some_is (tree t ts) base = both (or_is (reads t b q base) (each_read ts b q (base + positions t))) (either (reads_is t base) (some_is ts (base + positions t)))

  trail_is : (t : Option Tree) (base : ℕ) → (trail_reads t b q base ≡ true) ↔ (trail_quad t base).letter (b, q)
  trail_is None base = never
  trail_is (Some t) base = reads_is t base

  pub rules_read_is : (rules : List Rule) (i base : ℕ) → (rules_read rules b q base ≡ true) ↔ (active_quad every i base rules).letter (b, q)
  rules_read_is [] i base = never
  rules_read_is (r ∷ rules) i base =
      both (or_is (reads r.head b q base || trail_reads r.trail b q (base + positions r.head)) (rules_read rules b q (base + positions_of_rule r)))
      (either (both (or_is (reads r.head b q base) (trail_reads r.trail b q (base + positions r.head))) (either (reads_is r.head base) (trail_is r.trail (base + positions r.head)))) (rules_read_is rules (suc i) (base + positions_of_rule r)))
