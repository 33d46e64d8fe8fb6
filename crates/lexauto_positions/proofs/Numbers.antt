-- Lists of the numbers that pass a test.
use Rattle.std.specs.Prelude.{◌≡◌, ◌↔◌, ℕ, zero, suc, ◌+◌, ◌-◌, ◌<◌, ◌≤◌, Bool, true, false, cond, ◌⊎◌, List, [], ◌∷◌, ◌++◌, nat_eq}
use Rattle.std.proofs.Common.{inl, inr, refl, ap, sym, ◌∙◌, arith}
use Rattle.std.proofs.lemmas.List.{append_assoc}
use Rattle.std.proofs.lemmas.Bool.{eqb-true, eq-eqb}
use Rattle.std.specs.List.{filter}
use Rattle.lex_semantics.specs.Text.{Among, Ascending, listed}
use Rattle.lex_semantics.specs.Active.{contains}
use Rattle.lexauto_positions.proofs.FlowMeaning.{both, either, or_is, no_true}

next_number : (test : ℕ → Bool) (i n : ℕ) → i < n → listed test i (n - i) ≡ cond (test i) (i ∷ listed test (i + 1) (n - (i + 1))) (listed test (i + 1) (n - (i + 1)))
next_number test i n h =
    let one : n - i ≡ suc (n - (i + 1)) = omega arith in
    let up : suc i ≡ i + 1 = omega arith in
    ap (listed test i) one ∙ ap (λ (j : ℕ). cond (test i) (i ∷ listed test j (n - (i + 1))) (listed test j (n - (i + 1)))) up

pub number_in : (test : ℕ → Bool) (xs ys : List ℕ) (i n : ℕ) → i < n → test i ≡ true → ys ≡ xs ++ i ∷ [] → ys ++ listed test (i + 1) (n - (i + 1)) ≡ xs ++ listed test i (n - i)
number_in test xs ys i n h t e =
    let rest = listed test (i + 1) (n - (i + 1)) in
    ap (λ (zs : List ℕ). zs ++ rest) e ∙ append_assoc xs (i ∷ []) rest ∙ ap (λ (zs : List ℕ). xs ++ zs) (sym (next_number test i n h ∙ ap (λ (b : Bool). cond b (i ∷ rest) rest) t))

pub number_out : (test : ℕ → Bool) (xs ys : List ℕ) (i n : ℕ) → i < n → test i ≡ false → ys ≡ xs → ys ++ listed test (i + 1) (n - (i + 1)) ≡ xs ++ listed test i (n - i)
number_out test xs ys i n h t e =
    let rest = listed test (i + 1) (n - (i + 1)) in
    ap (λ (zs : List ℕ). zs ++ rest) e ∙ ap (λ (zs : List ℕ). xs ++ zs) (sym (next_number test i n h ∙ ap (λ (b : Bool). cond b (i ∷ rest) rest) t))

-- members

cond_among : (b : Bool) (xs ys : List ℕ) (x : ℕ) → Among (cond b xs ys) x → ((b ≡ true) × Among xs x) ⊎ ((b ≡ false) × Among ys x)
cond_among true xs ys x h = inl (refl, h)
cond_among false xs ys x h = inr (refl, h)

among_listed : (test : ℕ → Bool) (i n x : ℕ) → Among (listed test i n) x → (i ≤ x) × (x < i + n) × (test x ≡ true)
among_listed test i zero x h = absurd h
among_listed test i (suc n) x h = from (cond_among (test i) (i ∷ listed test (suc i) n) (listed test (suc i) n) x h) (λ g. among_listed test (suc i) n x g)
  where
    from : ((test i ≡ true) × Among (i ∷ listed test (suc i) n) x) ⊎ ((test i ≡ false) × Among (listed test (suc i) n) x)
        → (Among (listed test (suc i) n) x → (suc i ≤ x) × (x < suc i + n) × (test x ≡ true)) → (i ≤ x) × (x < i + suc n) × (test x ≡ true)
    from (inl (t, inl e)) more = (omega (arith, e), omega (arith, e), ap test e ∙ t)
    from (inl (t, inr g)) more = (let r = more g in (omega (arith, r.0), omega (arith, r.1), r.2))
    from (inr (t, g)) more = (let r = more g in (omega (arith, r.0), omega (arith, r.1), r.2))

listed_among : (test : ℕ → Bool) (i n x : ℕ) → i ≤ x → x < i + n → test x ≡ true → Among (listed test i n) x
listed_among test i zero x low high t = absurd (omega (arith, low, high))
listed_among test i (suc n) x low high t = from (let d : (x ≡ i) ⊎ (suc i ≤ x) = grind arith in d) (λ g. listed_among test (suc i) n x g (omega (arith, high)) t)
  where
    here : (b : Bool) → test i ≡ b → x ≡ i → Among (cond b (i ∷ listed test (suc i) n) (listed test (suc i) n)) x
    here true e same = inl same
    here false e same = no_true (sym e ∙ ap test (sym same) ∙ t)

    later : (b : Bool) → Among (listed test (suc i) n) x → Among (cond b (i ∷ listed test (suc i) n) (listed test (suc i) n)) x
    later true h = inr h
    later false h = h

    from : (x ≡ i) ⊎ (suc i ≤ x) → (suc i ≤ x → Among (listed test (suc i) n) x) → Among (listed test i (suc n)) x
    from (inl e) more = here (test i) refl e
    from (inr g) more = later (test i) (more g)

pub listed_is : (test : ℕ → Bool) (n x : ℕ) → Among (listed test 0 n) x ↔ ((x < n) × (test x ≡ true))
listed_is test n x = (λ h. (let r = among_listed test 0 n x h in (omega (arith, r.1), r.2)), λ (lt, t). listed_among test 0 n x (omega arith) (omega (arith, lt)) t)

pub listed_ascends : (test : ℕ → Bool) (i n : ℕ) → Ascending (listed test i n)
listed_ascends test i zero = tt
listed_ascends test i (suc n) = from (test i) (listed_ascends test (suc i) n)
  where
    from : (b : Bool) → Ascending (listed test (suc i) n) → Ascending (cond b (i ∷ listed test (suc i) n) (listed test (suc i) n))
    from true h = (λ j g. (let r = among_listed test (suc i) n j g in omega (arith, r.0)), h)
    from false h = h

pub filter_is : (test : ℕ → Bool) (xs : List ℕ) (x : ℕ) → Among (filter test xs) x ↔ (Among xs x × (test x ≡ true))
filter_is test [] x = (λ h. absurd h, λ h. h.0)
filter_is test (y ∷ xs) x = from (test y) refl (filter_is test xs x)
  where
    from : (b : Bool) → test y ≡ b → Among (filter test xs) x ↔ (Among xs x × (test x ≡ true)) → Among (cond b (y ∷ filter test xs) (filter test xs)) x ↔ (((x ≡ y) ⊎ Among xs x) × (test x ≡ true))
    from true e more = (
      λ h. elim h [ inl s ↦ (inl s, ap test s ∙ e) | inr g ↦ (let r = more.0 g in (inr r.0, r.1)) ],
      λ (h, t). elim h [ inl s ↦ inl s | inr g ↦ inr (more.1 (g, t)) ],
    )
    from false e more = (
      λ h. (let r = more.0 h in (inr r.0, r.1)),
      λ (h, t). elim h [ inl s ↦ no_true (sym e ∙ ap test (sym s) ∙ t) | inr g ↦ more.1 (g, t) ],
    )

pub filter_ascends : (test : ℕ → Bool) (xs : List ℕ) → Ascending xs → Ascending (filter test xs)
filter_ascends test [] h = tt
filter_ascends test (y ∷ xs) h = from (test y) (filter_ascends test xs h.1)
  where
    from : (b : Bool) → Ascending (filter test xs) → Ascending (cond b (y ∷ filter test xs) (filter test xs))
    from true g = (λ j a. h.0 j ((filter_is test xs j).0 a).0, g)
    from false g = g

pub lists_is : (xs : List ℕ) (x : ℕ) → (contains xs x ≡ true) ↔ Among xs x
lists_is [] x = (λ h. no_true h, λ h. absurd h)
lists_is (y ∷ xs) x = both (or_is (nat_eq y x) (contains xs x)) (either ((λ h. sym (eqb-true y x h)), (λ h. eq-eqb y x (sym h))) (lists_is xs x))

-- two ascending lists with the same members are the same
pub same_list : (xs ys : List ℕ) → Ascending xs → Ascending ys → ((x : ℕ) → Among xs x ↔ Among ys x) → xs ≡ ys
same_list [] [] h g e = refl
same_list [] (y ∷ ys) h g e = absurd ((e y).1 (inl refl))
same_list (x ∷ xs) [] h g e = absurd ((e x).0 (inl refl))
same_list (x ∷ xs) (y ∷ ys) h g e =
    let first : x ≡ y = heads ((e x).0 (inl refl)) ((e y).1 (inl refl)) in
    let rest : (z : ℕ) → Among xs z ↔ Among ys z = λ z. (
      λ a. elim ((e z).0 (inr a)) [ inl s ↦ absurd (let l = h.0 z a in omega (arith, l, s, first)) | inr b ↦ b ],
      λ a. elim ((e z).1 (inr a)) [ inl s ↦ absurd (let l = g.0 z a in omega (arith, l, s, first)) | inr b ↦ b ],
    ) in
    ap (λ (k : ℕ). k ∷ xs) first ∙ ap (λ (ks : List ℕ). y ∷ ks) (same_list xs ys h.1 g.1 rest)
  where
    heads : (x ≡ y) ⊎ Among ys x → (y ≡ x) ⊎ Among xs y → x ≡ y
    heads (inl s) b = s
    heads (inr a) (inl s) = sym s
    heads (inr a) (inr b) = absurd (let l = g.0 x a in let m = h.0 y b in omega (arith, l, m))
