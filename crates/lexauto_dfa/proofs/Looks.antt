-- What a map has at a list after an insertion. (From lexauto's proofs of its work list.)
use Rattle.std.proofs.Common.{◌≡◌, ℕ, ◌⊎◌, List, Option, Some, None, Bool, true, false, cond, sym, subst, ◌∙◌, inl, inr, ⊎_elim, Vec, Global}
use Rattle.std.specs.Ordering.{is_eq, nat_cmp}
use Rattle.std.specs.Cmp.{eq_by_cmp_equiv}
use Rattle.std.specs.Cmp.Lexicographic.{slice_cmp, nat_list_cmp_total, nat_list_eq_equiv, bytes_decides, texts_ties}
use Rattle.std.specs.Str.{bytes_eq}
use Rattle.std.specs.BTreeMap.{BTreeMap, UpdatesBy}
use Rattle.std.specs.Map.{lookup, IsKeyTest, AreApart, KeepsOthers}
use Rattle.std.proofs.lemmas.Bool.{cases_Bool, cond-true, cond-false}
use Rattle.lexauto_dfa.specs.Lists.{look}

apart : (bs cs ks : List ℕ) → bytes_eq bs cs ≡ false → bytes_eq bs ks ≡ true → bytes_eq cs ks ≡ false
apart bs cs ks n y = nat_list_eq_equiv.symm cs ks ∙ sym (nat_list_eq_equiv.congr bs ks cs y) ∙ n

apart_in_order : (bs cs ks : List ℕ) → bytes_eq bs cs ≡ false → is_eq (slice_cmp nat_cmp bs ks) ≡ true → is_eq (slice_cmp nat_cmp cs ks) ≡ false
apart_in_order bs cs ks n y = sym (texts_ties cs ks) ∙ apart bs cs ks n (texts_ties bs ks ∙ y)

module _ {K X : Type 0} (eq : K → K → Bool) (test : K → Bool) where
  other_entries : (old new : List (K × X)) → KeepsOthers eq test old new → (other : K → Bool) → IsKeyTest eq other → AreApart test other → lookup other new ≡ lookup other old
  unfolding KeepsOthers
  other_entries old new h = h

pub look_after : (m n : BTreeMap (Vec ℕ Global) ℕ) (k : List ℕ) (w : Option ℕ) → UpdatesBy (λ x y. slice_cmp nat_cmp x.items y.items) (λ v. slice_cmp nat_cmp k v.items) m n w
    → (q : List ℕ) → look n q ≡ cond (bytes_eq k q) w (look m q)
look_after m n k w h q =
    ⊎_elim
    (λ y. subst (λ (l : List ℕ). look n l ≡ w) ((bytes_decides k q).0 y) h.1 ∙ sym (cond-true (bytes_eq k q) w (look m q) y))
    (λ e. other_entries _ _ _ _ h.3 _ (λ x y. (eq_by_cmp_equiv nat_list_cmp_total).congr q x.items y.items) (λ v. apart_in_order k q v.items e) ∙ sym (cond-false (bytes_eq k q) w (look m q) e))
    (cases_Bool (bytes_eq k q))

none_some : {A : Type 0} (o : Option A) (x : A) → o ≡ None → o ≡ Some x → ⊥
none_some o x a b = absurd cc

pub some_same : (i j : ℕ) → Some i ≡ Some j → i ≡ j
some_same i j e = cc

module _ (f g : List ℕ → Option ℕ) (k : List ℕ) (x : ℕ) (none : f k ≡ None) (after : (q : List ℕ) → g q ≡ cond (bytes_eq k q) (Some x) (f q)) where
  pub keeps_looks : (q : List ℕ) (i : ℕ) → f q ≡ Some i → g q ≡ Some i
  keeps_looks q i h = elim (cases_Bool (bytes_eq k q)) [
    | inl y ↦ absurd (none_some (f q) i (subst (λ (l : List ℕ). f l ≡ None) ((bytes_decides k q).0 y) none) h)
    | inr n ↦ after q ∙ cond-false (bytes_eq k q) (Some x) (f q) n ∙ h
  ]

  pub only_looks : (q : List ℕ) (i : ℕ) → g q ≡ Some i → (f q ≡ Some i) ⊎ ((q ≡ k) × (i ≡ x))
  only_looks q i h = elim (cases_Bool (bytes_eq k q)) [
    | inl y ↦ inr (sym ((bytes_decides k q).0 y), some_same i x (sym h ∙ after q ∙ cond-true (bytes_eq k q) (Some x) (f q) y))
    | inr n ↦ inl (sym (cond-false (bytes_eq k q) (Some x) (f q) n) ∙ sym (after q) ∙ h)
  ]
