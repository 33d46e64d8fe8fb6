-- Labels of lists.
use Rattle.std.proofs.Common.{◌≡◌, ℕ, zero, suc, ◌⊎◌, ◌<◌, ◌+◌, List, [], ◌∷◌, ◌++◌, length, get_or, Option, Some, ap, sym, ◌∙◌, inl, inr, arith, Vec, Global}
use Rattle.std.specs.Prelude.{slice_index}
use Rattle.std.specs.declared.rc.Rc.{Rc}
use Rattle.lexauto_dfa.specs.Lists.{AreLabels, Labelled, list_at}
use Rattle.lexauto_dfa.proofs.Looks.{some_same}
use Rattle.lexauto_dfa.proofs.Numbered.{snoc_last, snoc_before, snoc_length}

pub list_is : (vs : List (Rc (Vec ℕ Global) Global)) (k : ℕ) (v : Rc (Vec ℕ Global) Global) → k < length vs → v ≡ get_or vs k v → list_at vs k ≡ v.value.items
list_is [] k v h e = absurd (omega arith)
list_is (x ∷ vs) zero v h e = ap (λ (u : Rc (Vec ℕ Global) Global). u.value.items) (sym e)
list_is (x ∷ vs) (suc k) v h e = list_is vs k v (omega arith) e

before_or_at : (k n : ℕ) → k < n + 1 → (k < n) ⊎ (k ≡ n)
before_or_at k n h = grind arith

pub labelled_more : (vs : List (Rc (Vec ℕ Global) Global)) (f g : List ℕ → Option ℕ) (labels : List ℕ) (n l : ℕ) → Labelled vs f labels n
    → g (list_at vs n) ≡ Some l → ((k : List ℕ) (i : ℕ) → f k ≡ Some i → g k ≡ Some i)
    → ((k : List ℕ) (i : ℕ) → g k ≡ Some i → (f k ≡ Some i) ⊎ ((k ≡ list_at vs n) × (i ≡ n)))
    → Labelled vs g (labels ++ l ∷ []) (n + 1)
labelled_more vs f g labels n l a found keeps only = record {
  len = (let s = snoc_length labels l in let e = a.len in omega (arith, s, e));
  there = λ y h. elim (before_or_at y n h) [
    | inl p ↦ keeps (list_at vs y) (slice_index labels y) (a.there y p) ∙ ap Some (sym (snoc_before labels l y (let e = a.len in omega (arith, e, p))))
    | inr e ↦ ap (λ (i : ℕ). g (list_at vs i)) e ∙ found ∙ ap Some (sym (snoc_last labels l y (e ∙ sym a.len)))
  ];
  from = λ k i h. elim (only k i h) [
    | inl o ↦ (let r = a.from k i o in let r0 = r.0 in (omega (arith, r0), r.1))
    | inr o ↦ (let e = o.1 in (omega (arith, e), ap (λ (j : ℕ). list_at vs j) e ∙ sym o.0))
  ];
}

pub labelled_all : (vs : List (Rc (Vec ℕ Global) Global)) (f : List ℕ → Option ℕ) (labels : List ℕ) → Labelled vs f labels (length vs) → AreLabels vs labels
labelled_all vs f labels a = record {
  len = a.len;
  low = λ x h. (a.from (list_at vs x) (slice_index labels x) (a.there x h)).0;
  same = λ x y h k e. sym (a.from (list_at vs x) (slice_index labels x) (a.there x h)).1 ∙ ap (λ (i : ℕ). list_at vs i) e ∙ (a.from (list_at vs y) (slice_index labels y) (a.there y k)).1;
  first = λ x h. (a.from (list_at vs x) (slice_index labels x) (a.there x h)).1;
  one = λ x y h k e. some_same (slice_index labels x) (slice_index labels y) (sym (a.there x h) ∙ ap f e ∙ a.there y k);
}
