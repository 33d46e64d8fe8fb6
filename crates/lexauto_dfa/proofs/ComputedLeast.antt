-- The worked examples of least automata, computed.
use Rattle.std.proofs.Common.{◌≡◌, ℕ, zero, suc, ◌-◌, ◌*◌, ◌<◌, Bool, true, false, List, [], ◌∷◌, ◌++◌, length, inl, inr, refl, sym, ap, subst, ◌∙◌, arith}
use Rattle.std.specs.Prelude.{◌==◌, nat_le, slice_index, slice_index_or, if◌then◌else◌, ◌≢◌}
use Rattle.std.proofs.lemmas.Bool.{leb-true, eqb-true, cond-true, cond-false, cases_Bool}
use Rattle.lex_semantics.specs.Text.{IsText}
use Rattle.lexauto_dfa.specs.Machines.{moving}
use Rattle.lexauto_dfa.proofs.Below.{holds}
use Rattle.lexauto_dfa.specs.Parts.{states, next, after, accepts, IsReachedIn}
use Rattle.lexauto_dfa.specs.declared.dfa.Parts.{Parts}
use Rattle.lexauto_dfa.specs.Numbering.{InOrder}
use Rattle.lexauto_dfa.specs.Automata.{bare}
use Rattle.lexauto_dfa.specs.LeastMachines.{AreToldApart}
use Rattle.lexauto_dfa.specs.Least.{by_turns}
use Rattle.lexauto_dfa.proofs.MachineLists.{starts_in, rows_in, calls_are}
use Rattle.lexauto_dfa.specs.LeastExamples.{by_a, IsOfA, IsOfATwice, LeastOfA, NotLeast, NotNumbered}

abbrev table : List ℕ
table = by_a 0 ++ by_a 2 ++ by_a 0

abbrev lists : List (List ℕ)
lists = [] ∷ [] ∷ (0 ∷ []) ∷ []

module _ (p : Parts) (is : IsOfA p) where
  goes : (s b : ℕ) → next p s b ≡ moving table s b
  goes s b = ap (λ n. moving n s b) is.next

  has : (s : ℕ) → accepts p s ≡ slice_index_or lists s []
  has s = ap (λ l. slice_index_or l s []) is.accepts

  count : states p ≡ 3
  count = ap (λ l. length l) is.goes_on

  reached : (s : ℕ) → s < states p → s ≢ 0 → IsReachedIn p s
  reached zero lt not = absurd (not refl)
  reached (suc zero) lt not = (0, false, [], omega (arith, ap (λ l. length l) is.starts), tt, ap (λ l. slice_index l 0) is.starts)
  reached (suc (suc zero)) lt not = (0, false, 97 ∷ [], omega (arith, ap (λ l. length l) is.starts), (omega arith, tt), ap (λ s. next p s 97) (ap (λ l. slice_index l 0) is.starts) ∙ goes 1 97)
  reached (suc (suc (suc s))) lt not = absurd (omega (arith, lt, count))

  -- by the empty word and by `a`
  by_none : (s t : ℕ) (x y : List ℕ) → slice_index_or lists s [] ≡ x → slice_index_or lists t [] ≡ y → x ≢ y → AreToldApart (bare p) s t
  by_none s t x y at bt other = ([], tt, λ e. other (sym (has s ∙ at) ∙ e ∙ has t ∙ bt))

  by_letter : (s t : ℕ) (x y : List ℕ) → slice_index_or lists (moving table s 97) [] ≡ x → slice_index_or lists (moving table t 97) [] ≡ y → x ≢ y → AreToldApart (bare p) s t
  by_letter s t x y at bt other =
      (97 ∷ [], (omega arith, tt), λ e. other (sym (ap (accepts p) (goes s 97) ∙ has (moving table s 97) ∙ at) ∙ e ∙ ap (accepts p) (goes t 97) ∙ has (moving table t 97) ∙ bt))

  some : ◌≢◌ {A = List ℕ} (0 ∷ []) []
  some e = cc

  none : ◌≢◌ {A = List ℕ} [] (0 ∷ [])
  none e = cc

  apart : (s t : ℕ) → s < states p → t < states p → s ≢ t → AreToldApart (bare p) s t
  apart zero zero lt mt not = absurd (not refl)
  apart zero (suc zero) lt mt not = by_letter 0 1 [] (0 ∷ []) refl refl none
  apart zero (suc (suc zero)) lt mt not = by_none 0 2 [] (0 ∷ []) refl refl none
  apart zero (suc (suc (suc t))) lt mt not = absurd (omega (arith, mt, count))
  apart (suc zero) zero lt mt not = by_letter 1 0 (0 ∷ []) [] refl refl some
  apart (suc zero) (suc zero) lt mt not = absurd (not refl)
  apart (suc zero) (suc (suc zero)) lt mt not = by_none 1 2 [] (0 ∷ []) refl refl none
  apart (suc zero) (suc (suc (suc t))) lt mt not = absurd (omega (arith, mt, count))
  apart (suc (suc zero)) zero lt mt not = by_none 2 0 (0 ∷ []) [] refl refl some
  apart (suc (suc zero)) (suc zero) lt mt not = by_none 2 1 (0 ∷ []) [] refl refl some
  apart (suc (suc zero)) (suc (suc zero)) lt mt not = absurd (not refl)
  apart (suc (suc zero)) (suc (suc (suc t))) lt mt not = absurd (omega (arith, mt, count))
  apart (suc (suc (suc s))) t lt mt not = absurd (omega (arith, lt, count))

-- whether the numbers come in order, and m is the greatest
abbrev are_in_order : ℕ → List ℕ → ℕ → Bool
are_in_order n [] m = m == n
are_in_order n (x ∷ xs) m = if nat_le x n then are_in_order n xs m else if x == suc n then are_in_order (suc n) xs m else false

in_order : (n : ℕ) (xs : List ℕ) (m : ℕ) → are_in_order n xs m ≡ true → InOrder n xs m
in_order n [] m holding = eqb-true m n holding
in_order n (x ∷ xs) m holding = elim (cases_Bool (nat_le x n)) [
  | inl t ↦ inl (leb-true x n t, in_order n xs m (sym (cond-true (nat_le x n) _ _ t) ∙ holding))
  | inr f ↦ (let r = sym (cond-false (nat_le x n) _ _ f) ∙ holding in elim (cases_Bool (x == suc n)) [
    | inl t ↦ inr (eqb-true x (suc n) t, in_order (suc n) xs m (sym (cond-true (x == suc n) _ _ t) ∙ r))
    | inr g ↦ absurd (let e = sym (cond-false (x == suc n) _ _ g) ∙ r in cc)
  ])
]

pub least_of_a : LeastOfA
least_of_a p is = (record { reached = reached p is; apart = apart p is }, subst (λ xs. InOrder 0 xs (states p - 1)) (sym called) (subst (λ n. InOrder 0 (1 ∷ 1 ∷ table) (n - 1)) (sym (count p is)) (in_order 0 (1 ∷ 1 ∷ table) 2 refl)))
  where
    called : starts_in (bare p) ++ rows_in (bare p) (states p) ≡ 1 ∷ 1 ∷ table
    called = calls_are p (ap (λ l. length l) is.line_starts ∙ sym (ap (λ l. length l) is.starts)) (ap (λ l. length l) is.next ∙ ap (λ n. 256 * n) (sym (count p is)))
        ∙ ap (λ xs. by_turns xs p.line_starts.items ++ p.next.items) is.starts ∙ ap (λ ys. by_turns (1 ∷ []) ys ++ p.next.items) is.line_starts ∙ ap (λ n. 1 ∷ 1 ∷ n) is.next

module _ (p : Parts) (is : IsOfATwice p) where
  abbrev twice : List ℕ
  twice = by_a 0 ++ by_a 2 ++ by_a 0 ++ by_a 4 ++ by_a 0

  same_next : (b : ℕ) → b < 256 → next p 2 b ≡ next p 4 b
  same_next b lt = ap (λ n. moving n 2 b) is.next ∙ eqb-true _ _ (holds 256 (λ c. moving twice 2 c == moving twice 4 c) refl b lt) ∙ sym (ap (λ n. moving n 4 b) is.next)

  same_future : (w : List ℕ) → IsText w → accepts p (after p 2 w) ≡ accepts p (after p 4 w)
  same_future [] text = ap (λ l. slice_index_or l 2 []) is.accepts ∙ sym (ap (λ l. slice_index_or l 4 []) is.accepts)
  same_future (b ∷ w) (lt, text) = ap (λ s. accepts p (after p s w)) (same_next b lt)

pub not_least : NotLeast
not_least p is least =
    let count : states p ≡ 5 = ap (λ l. length l) is.goes_on in
    let (w, text, other) = least.apart 2 4 (omega (arith, count)) (omega (arith, count)) (λ e. omega (arith, e)) in
    other (same_future p is w text)

pub not_numbered : NotNumbered
not_numbered p is order = absurd (no (subst (λ xs. InOrder 0 xs (states p - 1)) called order))
  where
    three : states p ≡ 3
    three = ap (λ l. length l) is.goes_on

    called : starts_in (bare p) ++ rows_in (bare p) (states p) ≡ 2 ∷ 2 ∷ by_a 0 ++ by_a 0 ++ by_a 1
    called = calls_are p (ap (λ l. length l) is.line_starts ∙ sym (ap (λ l. length l) is.starts)) (ap (λ l. length l) is.next ∙ ap (λ n. 256 * n) (sym three))
        ∙ ap (λ xs. by_turns xs p.line_starts.items ++ p.next.items) is.starts ∙ ap (λ ys. by_turns (2 ∷ []) ys ++ p.next.items) is.line_starts ∙ ap (λ n. 2 ∷ 2 ∷ n) is.next

    no : InOrder 0 (2 ∷ 2 ∷ by_a 0 ++ by_a 0 ++ by_a 1) (states p - 1) → ⊥
    no (inl (le, rest)) = omega (arith, le)
    no (inr (is_one, rest)) = omega (arith, is_one)
