-- One class more has a number.
use Rattle.std.proofs.Common.{◌≡◌, ◌≢◌, ℕ, suc, ◌+◌, ◌-◌, ◌*◌, ◌/◌, ◌%◌, ◌<◌, ◌≤◌, ◌⊎◌, List, [], ◌∷◌, ◌++◌, length, set, get_or, refl, ap, sym, subst, ◌∙◌, inl, inr, arith, get_or-set_other, get_or-set_same, length-set, length-append}
use Rattle.std.proofs.lemmas.List.{get_or_append_left, get_or-append-add}
use Rattle.std.specs.Prelude.{slice_index}
use Rattle.lexauto_dfa.specs.Numbers.{Numbering, IsNumberOf, Grown, Keeps, AreCalled, AreRows, AreStarts}
use Rattle.lexauto_dfa.specs.Numbering.{InOrder}
use Rattle.lexauto_dfa.proofs.Swapped.{same_or_not}
use Rattle.lexauto_dfa.proofs.Pigeons.{at_most}

pub snoc_last : (xs : List ℕ) (x k : ℕ) → k ≡ length xs → slice_index (xs ++ x ∷ []) k ≡ x
snoc_last xs x k e = ap (λ (i : ℕ). get_or (xs ++ x ∷ []) i 0) (let f : k ≡ length xs + 0 = omega (arith, e) in f) ∙ get_or-append-add xs (x ∷ []) 0 0

pub snoc_before : (xs : List ℕ) (x k : ℕ) → k < length xs → slice_index (xs ++ x ∷ []) k ≡ slice_index xs k
snoc_before xs x k h = get_or_append_left xs (x ∷ []) 0 k h

pub snoc_length : (xs : List ℕ) (x : ℕ) → length (xs ++ x ∷ []) ≡ length xs + 1
snoc_length xs x = length-append xs (x ∷ [])

before_or_at : (k n : ℕ) → k < n + 1 → (k < n) ⊎ (k ≡ n)
before_or_at k n h = grind arith

pub few_numbers : (classes of_class members : List ℕ) → Numbering classes of_class members → length members ≤ length classes
few_numbers classes of_class members a = at_most (length classes) (length members) (λ k. slice_index members k) (λ x. slice_index of_class (slice_index classes x)) a.known a.back

module _ (classes of_class members : List ℕ) (x c k : ℕ) (a : Numbering classes of_class members) (low : x < length classes) (is_c : slice_index classes x ≡ c) (c_low : c < length classes)
    (is_k : k ≡ length members) (none : length members ≤ slice_index of_class c) where
  at_c : slice_index (set of_class c k) c ≡ k
  at_c = get_or-set_same of_class c k 0 (let s = a.slots in omega (arith, s, c_low))

  others : (j : ℕ) → j < length members → slice_index classes (slice_index members j) ≢ c
  others j h e = let b = a.back j h in let q : slice_index of_class (slice_index classes (slice_index members j)) ≡ slice_index of_class c = ap (λ (d : ℕ). slice_index of_class d) e in omega (arith, b, q, h, none)

  pub one_number_more : Numbering classes (set of_class c k) (members ++ x ∷ [])
  one_number_more = record {
    slots = length-set of_class c k ∙ a.slots;
    known = λ j h. elim (before_or_at j (length members) (let l = snoc_length members x in omega (arith, l, h))) [
      | inl g ↦ subst (λ (y : ℕ). y < length classes) (sym (snoc_before members x j g)) (a.known j g)
      | inr e ↦ subst (λ (y : ℕ). y < length classes) (sym (snoc_last members x j e)) low
    ];
    back = λ j h. elim (before_or_at j (length members) (let l = snoc_length members x in omega (arith, l, h))) [
      | inl g ↦ ap (λ (y : ℕ). slice_index (set of_class c k) (slice_index classes y)) (snoc_before members x j g)
          ∙ get_or-set_other of_class c (slice_index classes (slice_index members j)) k 0 (others j g) ∙ a.back j g
      | inr e ↦ ap (λ (y : ℕ). slice_index (set of_class c k) (slice_index classes y)) (snoc_last members x j e)
          ∙ ap (λ (d : ℕ). slice_index (set of_class c k) d) is_c ∙ at_c ∙ is_k ∙ sym e
    ];
    forth = λ d h g. elim (same_or_not d c) [
      | inl e ↦ (let here : slice_index (set of_class c k) d ≡ k = ap (λ (i : ℕ). slice_index (set of_class c k) i) e ∙ at_c in (
        (let l = snoc_length members x in omega (arith, l, here, is_k)),
        ap (λ (j : ℕ). slice_index classes (slice_index (members ++ x ∷ []) j)) here ∙ ap (λ (y : ℕ). slice_index classes y) (snoc_last members x k is_k) ∙ is_c ∙ sym e,
      ))
      | inr n ↦ (let there : slice_index (set of_class c k) d ≡ slice_index of_class d = get_or-set_other of_class c d k 0 n in
          let f = a.forth d h (omega (arith, there, g)) in
          let f0 = f.0 in (
            (let l = snoc_length members x in omega (arith, l, there, f0)),
            ap (λ (j : ℕ). slice_index classes (slice_index (members ++ x ∷ []) j)) there ∙ ap (λ (y : ℕ). slice_index classes y) (snoc_before members x (slice_index of_class d) f0) ∙ f.1,
          ))
    ];
  }

-- calls in order
pub order_again : (n : ℕ) (xs : List ℕ) (m k : ℕ) → InOrder n xs m → k ≤ m → InOrder n (xs ++ k ∷ []) m
order_again n [] m k e h = inl ((let f : m ≡ n = e in omega (arith, f, h)), e)
order_again n (x ∷ xs) m k (inl (p, r)) h = inl (p, order_again n xs m k r h)
order_again n (x ∷ xs) m k (inr (p, r)) h = inr (p, order_again (suc n) xs m k r h)

pub order_next : (n : ℕ) (xs : List ℕ) (m k : ℕ) → InOrder n xs m → k ≡ suc m → InOrder n (xs ++ k ∷ []) k
order_next n [] m k e h = inr ((let f : m ≡ n = e in omega (arith, f, h)), (let f : m ≡ n = e in omega (arith, f, h)))
order_next n (x ∷ xs) m k (inl (p, r)) h = inl (p, order_next n xs m k r h)
order_next n (x ∷ xs) m k (inr (p, r)) h = inr (p, order_next (suc n) xs m k r h)

pub keeps_grown : (old : List ℕ) (x k : ℕ) (new : List ℕ) → Grown old x k new → Keeps old new
keeps_grown old x k new (inl (h, e)) = record { longer = (let l = ap (λ (xs : List ℕ). length xs) e in omega (arith, l)); same = λ j g. ap (λ (xs : List ℕ). slice_index xs j) e }
keeps_grown old x k new (inr (h, e)) = record {
  longer = (let l = ap (λ (xs : List ℕ). length xs) e in let s = snoc_length old x in omega (arith, l, s));
  same = λ j g. ap (λ (xs : List ℕ). slice_index xs j) e ∙ snoc_before old x j g;
}

pub keeps_again : (a b c : List ℕ) → Keeps a b → Keeps b c → Keeps a c
keeps_again a b c f g = record {
  longer = omega (arith, f.longer, g.longer);
  same = λ k h. g.same k (omega (arith, f.longer, h)) ∙ f.same k h;
}

pub number_kept : (classes a b : List ℕ) (k x : ℕ) → Keeps a b → IsNumberOf classes a k x → IsNumberOf classes b k x
number_kept classes a b k x f n = record {
  low = omega (arith, f.longer, n.low);
  same = ap (λ (y : ℕ). slice_index classes y) (f.same k n.low) ∙ n.same;
}

-- one call more
pub call_more : (s : ℕ) (old calls : List ℕ) (x k : ℕ) (new : List ℕ) → Grown old x k new → ((length calls < s) ⊎ ((length calls - s) / 256 < length old))
    → AreCalled s old calls → AreCalled s new (calls ++ k ∷ [])
call_more s old calls x k new (inl (h, e)) early a =
    let l = ap (λ (xs : List ℕ). length xs) e in record {
      some = omega (arith, l, a.some);
      order = subst (λ (n : ℕ). InOrder 0 (calls ++ k ∷ []) (n - 1)) (sym l) (order_again 0 calls (length old - 1) k a.order (omega (arith, h)));
      called = λ j p g. let (i, low, at, by) = a.called j p (omega (arith, l, g)) in
          (i, (let n = snoc_length calls k in omega (arith, n, low)), snoc_before calls k i low ∙ at, by);
    }
call_more s old calls x k new (inr (h, e)) early a =
    let l = ap (λ (xs : List ℕ). length xs) e ∙ snoc_length old x in
    let some = a.some in
    record {
      some = omega (arith, l);
      order = subst (λ (n : ℕ). InOrder 0 (calls ++ k ∷ []) n) (let q : k ≡ length new - 1 = omega (arith, l, h) in q) (order_next 0 calls (length old - 1) k a.order (omega (arith, h, some)));
      called = λ j p g. elim (before_or_at j (length old) (omega (arith, l, g))) [
        | inl b ↦ (let (i, low, at, by) = a.called j p b in
            (i, (let n = snoc_length calls k in omega (arith, n, low)), snoc_before calls k i low ∙ at, by))
        | inr q ↦ (
          length calls,
          (let n = snoc_length calls k in omega (arith, n)),
          snoc_last calls k (length calls) refl ∙ h ∙ sym q,
          elim early [ inl w ↦ inl w | inr w ↦ inr (omega (arith, w, q)) ],
        )
      ];
    }

pub starts_more : (classes starts old new called : List ℕ) (k : ℕ) → AreStarts classes starts old called → Keeps old new → IsNumberOf classes new k (slice_index starts (length called)) → AreStarts classes starts new (called ++ k ∷ [])
starts_more classes starts old new called k a f n i h = elim (before_or_at i (length called) (let l = snoc_length called k in omega (arith, l, h))) [
  | inl g ↦ subst (λ (j : ℕ). IsNumberOf classes new j (slice_index starts i)) (sym (snoc_before called k i g)) (number_kept classes old new (slice_index called i) (slice_index starts i) f (a i g))
  | inr e ↦ subst (λ (j : ℕ). IsNumberOf classes new j (slice_index starts i)) (sym (snoc_last called k i e)) (subst (λ (j : ℕ). IsNumberOf classes new k (slice_index starts j)) (sym e) n)
]

abbrev pub wanted_in : List ℕ → List ℕ → ℕ → ℕ
wanted_in table members j = slice_index table (slice_index members (j / 256) * 256 + j % 256)

pub rows_more : (classes table old new rows : List ℕ) (k : ℕ) → AreRows classes table old rows → Keeps old new → length rows / 256 < length old
    → IsNumberOf classes new k (wanted_in table old (length rows)) → AreRows classes table new (rows ++ k ∷ [])
rows_more classes table old new rows k a f low n j h = elim (before_or_at j (length rows) (let l = snoc_length rows k in omega (arith, l, h))) [
  | inl g ↦ (let r = a j g in let r0 = r.0 in (
    omega (arith, r0, f.longer),
    subst (λ (i : ℕ). IsNumberOf classes new i (wanted_in table new j)) (sym (snoc_before rows k j g))
        (subst (λ (y : ℕ). IsNumberOf classes new (slice_index rows j) (slice_index table (y * 256 + j % 256))) (sym (f.same (j / 256) r0))
        (number_kept classes old new (slice_index rows j) (wanted_in table old j) f r.1)),
  ))
  | inr e ↦ subst (λ (j : ℕ). (j / 256 < length new) × IsNumberOf classes new (slice_index (rows ++ k ∷ []) j) (wanted_in table new j)) (sym e) (
    (omega (arith, low, f.longer)),
    subst (λ (i : ℕ). IsNumberOf classes new i (wanted_in table new (length rows))) (sym (snoc_last rows k (length rows) refl))
        (subst (λ (y : ℕ). IsNumberOf classes new k (slice_index table (y * 256 + length rows % 256))) (sym (f.same (length rows / 256) low)) n),
  )
]
