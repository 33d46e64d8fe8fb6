-- Counts of targets in rows.
use Rattle.std.specs.Prelude.{◌≡◌, ◌≢◌, ℕ, zero, suc, ◌+◌, ◌*◌, ◌<◌, ◌≤◌, ◌⊎◌, ◌==◌, cond, List, [], ◌∷◌, ◌++◌, length, slice_index}
use Rattle.std.proofs.Common.{inl, inr, refl, sym, ◌∙◌, ap, subst, arith, length-append}
use Rattle.std.proofs.lemmas.List.{get_or_push, get_or_append_left}
use Rattle.lextab.specs.Columns.{often, IsDefault}
use Rattle.lextab.specs.Searching.{AreEntries}
use Rattle.lextab.proofs.Orders.{same_or_not, test_same, test_other}

one_if : (a b : ℕ) → a ≡ b → ◌≡◌ {A = ℕ} (cond (a == b) 1 0) 1
one_if a b e = rw (test_same a b e) refl

none_if : (a b : ℕ) → a ≢ b → ◌≡◌ {A = ℕ} (cond (a == b) 1 0) 0
none_if a b e = rw (test_other a b e) refl

pub often_le : (f : ℕ → ℕ) (n t : ℕ) → often f n t ≤ n
often_le f zero t = omega arith
often_le f (suc n) t = elim (same_or_not (f n) t) [
  | inl e ↦ omega (arith, one_if (f n) t e, often_le f n t)
  | inr d ↦ omega (arith, none_if (f n) t d, often_le f n t)
]

pub often_or : (f : ℕ → ℕ) (n t : ℕ) → (often f n t ≡ 0) ⊎ ((k : ℕ) × (k < n) × (f k ≡ t))
often_or f zero t = inl refl
often_or f (suc n) t = elim (same_or_not (f n) t) [
  | inl e ↦ inr (n, omega arith, e)
  | inr d ↦ elim (often_or f n t) [
    | inl z ↦ inl (omega (arith, none_if (f n) t d, z))
    | inr w ↦ inr (w.0, (let l = w.1 in omega arith), w.2)
  ]
]

pub often_some : (f : ℕ → ℕ) (n t k : ℕ) → k < n → f k ≡ t → 0 < often f n t
often_some f zero t k h e = absurd (omega arith)
often_some f (suc n) t k h e = elim (same_or_not k n) [
  | inl q ↦ omega (arith, one_if (f n) t (ap f (sym q) ∙ e))
  | inr d ↦ (let r = often_some f n t k (omega arith) e in omega (arith, r))
]

pub often_same : (f g : ℕ → ℕ) (n t : ℕ) → ((k : ℕ) → k < n → f k ≡ g k) → often f n t ≡ often g n t
often_same f g zero t e = refl
often_same f g (suc n) t e =
    let a : f n ≡ g n = e n (omega arith) in
    let r = often_same f g n t (λ k h. e k (omega arith)) in
    rw (a, r) refl

pub default_is : (f : ℕ → ℕ) (n d : ℕ) → (k : ℕ) × (k < n) × (f k ≡ d) → ((j : ℕ) → j < n → often f n (f j) ≤ often f n d)
    → ((j : ℕ) → j < n → often f n (f j) ≡ often f n d → d ≤ f j) → IsDefault f n d
default_is f n d there most least = record {
  most = λ t. elim (often_or f n t) [
    | inl z ↦ omega (arith, z)
    | inr w ↦ subst (λ (u : ℕ). often f n u ≤ often f n d) w.2 (most w.0 w.1)
  ];
  least = λ t h. elim (often_or f n t) [
    | inl z ↦ absurd (let p = often_some f n d there.0 there.1 there.2 in omega (arith, z, p, h))
    | inr w ↦ subst (λ (u : ℕ). d ≤ u) w.2 (least w.0 w.1 (ap (often f n) w.2 ∙ h))
  ];
}

-- the target of most classes is that of some class
pub there_is : (f : ℕ → ℕ) (n d : ℕ) → IsDefault f n d → 0 < n → (k : ℕ) × (k < n) × (f k ≡ d)
there_is f n d x some = elim (often_or f n d) [
  | inl z ↦ absurd (let m = x.most (f 0) in let p = often_some f n (f 0) 0 some refl in omega (arith, m, p, z))
  | inr w ↦ w
]

-- two targets share a row
often_both : (f : ℕ → ℕ) (n t u : ℕ) → t ≢ u → often f n t + often f n u ≤ n
often_both f zero t u d = omega arith
often_both f (suc n) t u d =
    let rest = often_both f n t u d in
    elim (same_or_not (f n) t) [
      | inl e ↦ omega (arith, rest, one_if (f n) t e, none_if (f n) u (λ h. d (sym e ∙ h)))
      | inr other ↦ elim (same_or_not (f n) u) [
        | inl e ↦ omega (arith, rest, none_if (f n) t other, one_if (f n) u e)
        | inr apart ↦ omega (arith, rest, none_if (f n) t other, none_if (f n) u apart)
      ]
    ]

-- the target of more than half of a row is the one of most
pub default_of_most : (f : ℕ → ℕ) (n d : ℕ) → (k : ℕ) × (k < n) × (f k ≡ d) → n < 2 * often f n d → IsDefault f n d
default_of_most f n d there half = record {
  most = λ t. elim (same_or_not t d) [
    | inl e ↦ rw e (omega arith)
    | inr apart ↦ (let both = often_both f n t d apart in omega (arith, both, half))
  ];
  least = λ t h. elim (same_or_not t d) [
    | inl e ↦ omega (arith, e)
    | inr apart ↦ absurd (let both = often_both f n t d apart in omega (arith, both, half, h))
  ];
}

pub default_same : (f g : ℕ → ℕ) (n d : ℕ) → ((k : ℕ) → k < n → f k ≡ g k) → IsDefault f n d → IsDefault g n d
default_same f g n d e x = record {
  most = λ t. (let m = x.most t in let a = often_same f g n t e in let b = often_same f g n d e in omega (arith, m, a, b));
  least = λ t h. x.least t (often_same f g n t e ∙ h ∙ sym (often_same f g n d e));
}

pub length_append_one : (ks : List ℕ) (n : ℕ) → length (ks ++ n ∷ []) ≡ length ks + 1
length_append_one ks n = length-append ks (n ∷ [])

-- one more class, which has an entry
pub more_entries : (row : List ℕ) (d n : ℕ) (ks : List ℕ) → AreEntries row d n ks → slice_index row n ≢ d → AreEntries row d (n + 1) (ks ++ n ∷ [])
more_entries row d n ks x ne = record {
  only = λ j h. elim (same_or_not j (length ks)) [
    | inl q ↦ (let e = get_or_push ks n 0 j (sym q) in (omega (arith, e), λ z. ne (ap (λ (k : ℕ). slice_index row k) (sym e) ∙ z)))
    | inr m ↦ (let low : j < length ks = omega (arith, h, length_append_one ks n) in let e = get_or_append_left ks (n ∷ []) 0 j low in let o = x.only j low in let o0 = o.0 in
        (omega (arith, e), λ z. o.1 (ap (λ (k : ℕ). slice_index row k) (sym e) ∙ z)))
  ];
  all = λ k h o. elim (same_or_not k n) [
    | inl q ↦ (length ks, omega (arith, length_append_one ks n), get_or_push ks n 0 (length ks) refl ∙ sym q)
    | inr m ↦ (let w = x.all k (omega arith) o in (w.0, (let l = w.1 in omega (arith, length_append_one ks n)), get_or_append_left ks (n ∷ []) 0 w.0 w.1 ∙ w.2))
  ];
}

pub same_entries : (row : List ℕ) (d n : ℕ) (ks : List ℕ) → AreEntries row d n ks → slice_index row n ≡ d → AreEntries row d (n + 1) ks
same_entries row d n ks x e = record {
  only = λ j h. (let o = x.only j h in let l = o.0 in (omega arith, o.1));
  all = λ k h o. elim (same_or_not k n) [
    | inl q ↦ absurd (o (ap (λ (i : ℕ). slice_index row i) q ∙ e))
    | inr m ↦ x.all k (omega arith) o
  ];
}
