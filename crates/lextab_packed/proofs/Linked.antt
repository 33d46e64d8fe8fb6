-- The chains of one entry more.
use Rattle.std.proofs.Common.{◌≡◌, ◌≢◌, ℕ, suc, ◌+◌, ◌<◌, ◌/◌, ◌%◌, ◌-◌, List, [], ◌∷◌, ◌++◌, length, set, refl, ap, sym, subst, ◌∙◌, inl, inr, arith, get_or-set_other, get_or-set_same, length-set, length-append}
use Rattle.std.proofs.lemmas.List.{get_or_append_left, get_or_push}
use Rattle.std.specs.Prelude.{slice_index}
use Rattle.lextab_packed.specs.Inverse.{AreChains, NoneLinks, target_of}
use Rattle.lextab_packed.proofs.Spreads.{same_or_not}

module _ (next last entries before : List ℕ) (i : ℕ) (c : AreChains next last entries before i) where
  -- a byte that leads from a state where the byte before it does needs no link
  pub none_more_chained : (i % 256 ≢ 0) → slice_index next (i - 1) ≡ slice_index next i → AreChains next last entries before (i + 1)
  none_more_chained behind same = record {
    befores = c.befores;
    inside = λ k h. let o = c.inside k h in omega (arith, o);
    last_low = c.last_low;
    last_is = c.last_is;
    last_top = c.last_top;
    last_all = λ x h. elim (same_or_not x i) [
      | inl q ↦ rw q here
      | inr n ↦ c.last_all x (omega (arith, h, n))
    ];
    before_low = c.before_low;
    before_is = c.before_is;
    before_all = c.before_all;
  }
    where
      here : NoneLinks next entries i (slice_index last (slice_index next i)) → ⊥
      here none = c.last_all (i - 1) (omega (arith, behind))
          (λ k inside low is state. none k inside (subst (λ (t : ℕ). k < slice_index last t) same low) (is ∙ same) (state ∙ omega (arith, behind)))

  -- the entry i has a link before the chain of its target y
  module _ (y : ℕ) (low : y < length last) (is : slice_index next i ≡ y) where
    abbrev n : ℕ
    n = length entries

    abbrev more : List ℕ
    more = entries ++ i ∷ []

    abbrev earlier : List ℕ
    earlier = before ++ slice_index last y ∷ []

    abbrev now : List ℕ
    now = set last y (n + 1)

    size : length more ≡ n + 1
    size = length-append entries (i ∷ [])

    at_y : slice_index now y ≡ n + 1
    at_y = get_or-set_same last y (n + 1) 0 low

    at_other : (t : ℕ) → t ≢ y → slice_index now t ≡ slice_index last t
    at_other t d = get_or-set_other last y t (n + 1) 0 d

    entry_new : slice_index more n ≡ i
    entry_new = get_or_push entries i 0 (length entries) refl

    entry_old : (k : ℕ) → k < n → slice_index more k ≡ slice_index entries k
    entry_old k h = get_or_append_left entries (i ∷ []) 0 k h

    before_new : slice_index earlier n ≡ slice_index last y
    before_new = get_or_push before (slice_index last y) 0 n c.befores

    before_old : (k : ℕ) → k < n → slice_index earlier k ≡ slice_index before k
    before_old k h = get_or_append_left before (slice_index last y ∷ []) 0 k (let l = c.befores in omega (arith, l, h))

    target_new : target_of next more n ≡ y
    target_new = ap (λ (x : ℕ). slice_index next x) entry_new ∙ is

    target_old : (k : ℕ) → k < n → target_of next more k ≡ target_of next entries k
    target_old k h = ap (λ (x : ℕ). slice_index next x) (entry_old k h)

    within : (t : ℕ) → t < length now → t < length last
    within t h = let l = length-set last y (n + 1) in omega (arith, l, h)

    linked : (x : ℕ) → x < i → NoneLinks next more x (slice_index now (slice_index next x)) → ⊥
    linked x h none = c.last_all x h (λ k inside under target state.
        none k (omega (arith, inside, size)) (below k inside under) (target_old k inside ∙ target) (ap (λ (z : ℕ). z / 256) (entry_old k inside) ∙ state))
      where
        below : (k : ℕ) → k < n → k < slice_index last (slice_index next x) → k < slice_index now (slice_index next x)
        below k inside under = elim (same_or_not (slice_index next x) y) [
          | inl q ↦ (let e : slice_index now (slice_index next x) ≡ n + 1 = ap (λ (t : ℕ). slice_index now t) q ∙ at_y in omega (arith, e, inside))
          | inr d ↦ (let e = at_other (slice_index next x) d in omega (arith, e, under))
        ]

    linked_new : NoneLinks next more i (slice_index now (slice_index next i)) → ⊥
    linked_new none =
        let e : slice_index now (slice_index next i) ≡ n + 1 = ap (λ (t : ℕ). slice_index now t) is ∙ at_y in
        none n (omega (arith, size)) (omega (arith, e)) (target_new ∙ sym is) (ap (λ (z : ℕ). z / 256) entry_new)

    -- a link of more is the new one or one of those before
    old_one : (k : ℕ) → k < length more → k ≢ n → k < n
    old_one k h d = omega (arith, h, size, d)

    pub one_more_chained : AreChains next now more earlier (i + 1)
    one_more_chained = record {
      befores = (let l = length-append before (slice_index last y ∷ []) in let b = c.befores in omega (arith, l, b, size));
      inside = λ k h. elim (same_or_not k n) [
        | inl q ↦ rw q (let e = entry_new in omega (arith, e))
        | inr d ↦ (let e = entry_old k (old_one k h d) in let o = c.inside k (old_one k h d) in omega (arith, e, o))
      ];
      last_low = λ t h. let there = within t h in elim (same_or_not t y) [
        | inl q ↦ rw q (let e = at_y in omega (arith, e, size))
        | inr d ↦ (let e = at_other t d in let o = c.last_low t there in omega (arith, e, o, size))
      ];
      last_is = λ t k h e. let there = within t h in elim (same_or_not t y) [
        | inl q ↦ (let s : slice_index now y ≡ suc k = rw q at e in let is_n : k ≡ n = (let f = at_y in omega (arith, f, s)) in ap (λ (x : ℕ). target_of next more x) is_n ∙ target_new ∙ sym q)
        | inr d ↦ (let f = at_other t d in let o = c.last_low t there in target_old k (omega (arith, e, f, o)) ∙ c.last_is t k there (sym f ∙ e))
      ];
      last_top = λ k h. elim (same_or_not k n) [
        | inl q ↦ rw q (let e : slice_index now (target_of next more n) ≡ n + 1 = ap (λ (t : ℕ). slice_index now t) target_new ∙ at_y in omega (arith, e))
        | inr d ↦ top k (old_one k h d)
      ];
      last_all = λ x h. elim (same_or_not x i) [
        | inl q ↦ rw q linked_new
        | inr d ↦ linked x (omega (arith, h, d))
      ];
      before_low = λ k h. elim (same_or_not k n) [
        | inl q ↦ rw q (let e = before_new in let o = c.last_low y low in omega (arith, e, o))
        | inr d ↦ (let e = before_old k (old_one k h d) in let o = c.before_low k (old_one k h d) in omega (arith, e, o))
      ];
      before_is = λ k j h e. elim (same_or_not k n) [
        | inl q ↦ (let s : slice_index earlier n ≡ suc j = rw q at e in let f : slice_index last y ≡ suc j = sym before_new ∙ s in let o = c.last_low y low in
            target_old j (omega (arith, o, f)) ∙ c.last_is y j low f ∙ sym target_new ∙ ap (λ (x : ℕ). target_of next more x) (sym q))
        | inr d ↦ (let b = before_old k (old_one k h d) in let o = c.before_low k (old_one k h d) in let l = old_one k h d in
            target_old j (omega (arith, e, b, o, l)) ∙ c.before_is k j (old_one k h d) (sym b ∙ e) ∙ sym (target_old k (old_one k h d)))
      ];
      before_all = λ k j h less e. elim (same_or_not k n) [
        | inl q ↦ (let inside : j < n = omega (arith, less, q) in
            let same : target_of next entries j ≡ y = sym (target_old j inside) ∙ e ∙ ap (λ (x : ℕ). target_of next more x) q ∙ target_new in
            let o : j < slice_index last y = subst (λ (t : ℕ). j < slice_index last t) same (c.last_top j inside) in
            let b : slice_index earlier k ≡ slice_index last y = ap (λ (x : ℕ). slice_index earlier x) q ∙ before_new in
            omega (arith, o, b))
        | inr d ↦ (let l = old_one k h d in let inside : j < n = omega (arith, less, l) in
            let b = before_old k l in let o = c.before_all k j l less (sym (target_old j inside) ∙ e ∙ target_old k l) in omega (arith, b, o))
      ];
    }
      where
        top : (k : ℕ) → k < n → k < slice_index now (target_of next more k)
        top k h = elim (same_or_not (target_of next more k) y) [
          | inl q ↦ (let e : slice_index now (target_of next more k) ≡ n + 1 = ap (λ (t : ℕ). slice_index now t) q ∙ at_y in omega (arith, e, h))
          | inr d ↦ (let e = at_other (target_of next more k) d in
              let o : k < slice_index last (target_of next more k) = subst (λ (t : ℕ). k < slice_index last t) (sym (target_old k h)) (c.last_top k h) in omega (arith, e, o))
        ]
