-- The bytes of each class, found from the last byte to the first.
use Rattle.std.proofs.Common.{◌≡◌, ℕ, zero, suc, ◌+◌, ◌*◌, ◌<◌, ◌≤◌, List, ◌++◌, length, inl, inr, refl, sym, ap, subst, ◌∙◌, arith}
use Rattle.std.specs.Prelude.{slice_index}
use Rattle.std.proofs.Common.{replicate, slice_set}
use Rattle.std.proofs.lemmas.List.{get_or-set_same, get_or-set_other, get_or-replicate, get_or_append_left, get_or-append-add}
use Rattle.std.proofs.lemmas.Bool.{cases_eq}
use Rattle.lextab_packed.specs.Alike.{IsNext, AreAlike}

-- a list of zeros has zero at each place, and past its end
pub zero_at : (n k : ℕ) → slice_index (replicate n 0) k ≡ 0
zero_at zero k = refl
zero_at (suc n) zero = refl
zero_at (suc n) (suc k) = zero_at n k

-- past the last byte there is none
pub none_yet : (class_of : List ℕ) → AreAlike class_of (replicate 256 256) (replicate 256 256) 256
none_yet class_of = record {
  firsts = λ class lt. let e : slice_index (replicate 256 256) class ≡ 256 = get_or-replicate 256 class 256 0 lt in record {
    order = omega (arith, e);
    inside = omega (arith, e);
    is = λ low. absurd (omega (arith, e, low));
    none = λ b from to is. absurd (omega (arith, e, from, to));
  };
  afters = λ b from lt. absurd (omega (arith, from, lt));
}

further : (class_of : List ℕ) (class b next : ℕ) → (slice_index class_of b ≡ class → ⊥) → IsNext class_of class (b + 1) next → IsNext class_of class b next
further class_of class b next other n = record {
  order = let o = n.order in omega (arith, o);
  inside = n.inside;
  is = n.is;
  none = λ x from to is. elim (cases_eq x b) [
    | inl e ↦ other (subst (λ y. slice_index class_of y ≡ class) e is)
    | inr apart ↦ n.none x (omega (arith, from, apart)) to is
  ];
}

here : (class_of : List ℕ) (b : ℕ) → b < 256 → IsNext class_of (slice_index class_of b) b b
here class_of b lt = record { order = omega arith; inside = omega arith; is = λ low. refl; none = λ x from to is. absurd (omega (arith, from, to)) }

-- one byte more, before the others
module _ (class_of first after : List ℕ) (b : ℕ) (byte : b < 256) (firsts_len : length first ≡ 256) (afters_len : length after ≡ 256) (low : slice_index class_of b < 256) (so_far : AreAlike class_of first after (b + 1)) where
  abbrev class : ℕ
  class = slice_index class_of b

  one_first : (k : ℕ) → k < 256 → IsNext class_of k b (slice_index (slice_set first class b) k)
  one_first k lt = elim (cases_eq k class) [
    | inl e ↦ subst (λ x. IsNext class_of x b (slice_index (slice_set first class b) x)) (sym e) (subst (IsNext class_of class b) (sym (get_or-set_same first class b 0 (omega (arith, low, firsts_len)))) (here class_of b byte))
    | inr apart ↦ subst (IsNext class_of k b) (sym (get_or-set_other first class k b 0 (λ e. absurd (omega (arith, e, apart))))) (further class_of k b (slice_index first k) (λ e. apart (sym e)) (so_far.firsts k lt))
  ]

  one_after : (k : ℕ) → b ≤ k → k < 256 → IsNext class_of (slice_index class_of k) (k + 1) (slice_index (slice_set after b (slice_index first class)) k)
  one_after k from lt = elim (cases_eq k b) [
    | inl e ↦ subst (λ x. IsNext class_of (slice_index class_of x) (x + 1) (slice_index (slice_set after b (slice_index first class)) x)) (sym e) (subst (IsNext class_of class (b + 1)) (sym (get_or-set_same after b (slice_index first class) 0 (omega (arith, byte, afters_len)))) (so_far.firsts class low))
    | inr apart ↦ subst (IsNext class_of (slice_index class_of k) (k + 1)) (sym (get_or-set_other after b k (slice_index first class) 0 (λ e. absurd (omega (arith, e, apart))))) (so_far.afters k (omega (arith, from, apart)) lt)
  ]

  pub one_before : AreAlike class_of (slice_set first class b) (slice_set after b (slice_index first class)) b
  one_before = record { firsts = one_first; afters = one_after }

-- one row more
pub one_row_more : (rows xs : List ℕ) (n : ℕ) (f : ℕ → ℕ → ℕ) → length rows ≡ 256 * n → ((s b : ℕ) → s < n → b < 256 → slice_index rows (256 * s + b) ≡ f s b) → ((b : ℕ) → b < 256 → slice_index xs b ≡ f n b)
    → (s b : ℕ) → s < n + 1 → b < 256 → slice_index (rows ++ xs) (256 * s + b) ≡ f s b
one_row_more rows xs n f len before next s b lt byte = elim (cases_eq s n) [
  | inl e ↦ (
      let place : 256 * s + b ≡ length rows + b = omega (arith, e, len) in
      ap (slice_index (rows ++ xs)) place ∙ get_or-append-add rows xs b 0 ∙ next b byte ∙ ap (λ k. f k b) (sym e)
      )
  | inr apart ↦ (let low : s < n = omega (arith, lt, apart) in get_or_append_left rows xs 0 (256 * s + b) (omega (arith, len, low, byte)) ∙ before s b low byte)
]
