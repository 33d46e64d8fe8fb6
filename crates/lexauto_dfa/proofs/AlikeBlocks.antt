-- Cutting by one label more.
use Rattle.std.proofs.Common.{◌≡◌, ◌≢◌, ◌↔◌, ℕ, zero, suc, ◌+◌, ◌<◌, ◌⊎◌, Bool, true, false, ◌==◌, List, [], ◌∷◌, length, ap, sym, ◌∙◌, inl, inr, arith}
use Rattle.std.proofs.lemmas.Bool.Decides.{nat_tests}
use Rattle.std.specs.Prelude.{slice_index}
use Rattle.lexauto_dfa.specs.declared.least.blocks.Blocks.{Blocks}
use Rattle.lexauto_dfa.specs.Arranged.{states, block_of}
use Rattle.lexauto_dfa.specs.Sources.{Has, IsRow}
use Rattle.lexauto_dfa.specs.Splits.{Cuts, Refining}
use Rattle.lexauto_dfa.proofs.Refines.{first_blocks}
use Rattle.lexauto_dfa.specs.declared.least.sources.Letter.{Letter}
use Rattle.lexauto_dfa.specs.Letters.{AreLetters, machine}
use Rattle.lexauto_dfa.proofs.Rounds.{closed}
use Rattle.lexauto_dfa.specs.Labels.{AreAlike}
use Rattle.lexauto_dfa.proofs.Swapped.{same_or_not}

same_test : (a b : ℕ) → (a == b) ≡ true → a ≡ b
same_test a b h = grind (arith, nat_tests)

test_same : (a b : ℕ) → a ≡ b → (a == b) ≡ true
test_same a b h = grind (arith, nat_tests)

test_other : (a b : ℕ) → a ≢ b → (a == b) ≡ false
test_other a b h = grind (arith, nat_tests)

module _ (labels : List ℕ) (l : ℕ) where
  pub is_l : ℕ → Bool
  is_l x = slice_index labels x == l

  only_one : (y : ℕ) → Has (l ∷ []) y → y ≡ l
  only_one y (zero, h, e) = sym e
  only_one y (suc i, h, e) = absurd (omega (arith, h))

  pub tells : (x : ℕ) → (is_l x ≡ true) ↔ Has (l ∷ []) (slice_index labels x)
  unfolding is_l
  tells x = (λ t. (0, omega arith, sym (same_test (slice_index labels x) l t)), λ h. test_same (slice_index labels x) l (only_one (slice_index labels x) h))

  -- of those with one test, both have the label or none has
  both_or_none : (x y : ℕ) → is_l x ≡ is_l y → ((slice_index labels x ≡ l) × (slice_index labels y ≡ l)) ⊎ ((slice_index labels x ≢ l) × (slice_index labels y ≢ l))
  unfolding is_l
  both_or_none x y e = elim (same_or_not (slice_index labels x) l) [
    | inl p ↦ inl (p, same_test (slice_index labels y) l (sym e ∙ test_same (slice_index labels x) l p))
    | inr p ↦ inr (p, λ q. p (same_test (slice_index labels x) l (e ∙ test_same (slice_index labels y) l q)))
  ]

  none_same : (x y : ℕ) → slice_index labels x ≢ l → slice_index labels y ≢ l → is_l x ≡ is_l y
  unfolding is_l
  none_same x y p q = test_other (slice_index labels x) l p ∙ sym (test_other (slice_index labels y) l q)

  label_same : (x y : ℕ) → slice_index labels x ≡ slice_index labels y → is_l x ≡ is_l y
  unfolding is_l
  label_same x y e = ap (λ (n : ℕ). n == l) e

  pub one_more : (old new : Blocks) (before after : List ℕ) → states new ≡ states old
      → ((m : ℕ → Bool) → ((x : ℕ) → x < states old → (m x ≡ true) ↔ Has (l ∷ []) (slice_index labels x)) → Cuts (states old) (block_of old) (block_of new) m (Has before) (Has after))
      → AreAlike labels l old before → AreAlike labels (l + 1) new after
  one_more old new before after n cuts a = record {
    same = λ x y h k e.
        let f = cut.finer x y (omega (arith, h, n)) (omega (arith, k, n)) e in
        elim (a.same x y (omega (arith, h, n)) (omega (arith, k, n)) f.0) [
          | inl s ↦ inl s
          | inr s ↦ elim (both_or_none x y f.1) [
            | inl b ↦ inl (b.0 ∙ sym b.1)
            | inr b ↦ inr ((let p = s.0 in let q = b.0 in omega (arith, p, q)), (let p = s.1 in let q = b.1 in omega (arith, p, q)))
          ]
        ];
    one = λ x y h k e. cut.no_finer x y (omega (arith, h, n)) (omega (arith, k, n)) (a.one x y (omega (arith, h, n)) (omega (arith, k, n)) e) (label_same x y e);
    rest = λ x y h k p q. cut.no_finer x y (omega (arith, h, n)) (omega (arith, k, n)) (a.rest x y (omega (arith, h, n)) (omega (arith, k, n)) (omega (arith, p)) (omega (arith, q)))
        (none_same x y (omega (arith, p)) (omega (arith, q)));
    wait = λ x y h k d. elim (same_or_not (block_of old x) (block_of old y)) [
      | inl e ↦ cut.one_waits x y (omega (arith, h, n)) (omega (arith, k, n)) e d
      | inr o ↦ elim (a.wait x y (omega (arith, h, n)) (omega (arith, k, n)) o) [
        | inl w ↦ inl (cut.waits x (omega (arith, h, n)) w)
        | inr w ↦ inr (cut.waits y (omega (arith, k, n)) w)
      ]
    ];
  }
    where
      cut : Cuts (states old) (block_of old) (block_of new) is_l (Has before) (Has after)
      cut = cuts is_l (λ x h. tells x)

-- the first blocks are ready to be refined
pub ready : (letters : List Letter) (labels : List ℕ) (b : Blocks) (waiting : List ℕ) → AreLetters letters (length labels) → IsRow labels → states b ≡ length labels
    → AreAlike labels (length labels) b waiting → (coarse : ℕ → ℕ) × Refining (machine letters labels) (block_of b) (Has waiting) coarse
ready letters labels b waiting fit row n a = (
  (λ x. 0),
  first_blocks (machine letters labels) (closed letters labels fit) (block_of b) (Has waiting)
      (λ x y h k e. elim (a.same x y (omega (arith, h, n)) (omega (arith, k, n)) e) [
        | inl s ↦ ap (λ (l : ℕ). l ∷ []) s
        | inr s ↦ absurd (let l = row x h in let p = s.0 in omega (arith, l, p))
      ])
      (λ x y h k e. a.one x y (omega (arith, h, n)) (omega (arith, k, n)) (heads (slice_index labels x) (slice_index labels y) e))
      (λ x y h k d. a.wait x y (omega (arith, h, n)) (omega (arith, k, n)) d),
)
  where
    heads : (p q : ℕ) → ◌≡◌ {A = List ℕ} (p ∷ []) (q ∷ []) → p ≡ q
    heads p q e = cc
