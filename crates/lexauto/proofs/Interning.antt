-- What the table finds, before and after a key is added.
use Rattle.std.proofs.Common.{◌≡◌, ◌==◌, ℕ, zero, suc, ◌<◌, List, [], ◌∷◌, ◌++◌, length, Option, Some, None, true, false, cond, refl, ap, sym, subst, ◌∙◌, inl, inr, get_or, arith, length-append}
use Rattle.std.specs.Prelude.{nat_lt, slice_index_or}
use Rattle.std.specs.Cmp.Lexicographic.{bytes_decides}
use Rattle.std.specs.Str.{bytes_eq}
use Rattle.std.proofs.lemmas.Bool.{cases_Bool, cases_eq, cond-true, cond-false, ltb-true, lt-ltb, eq-eqb, ne_eqb}
use Rattle.std.proofs.lemmas.List.{get_or_append_left, get_or_push, map-append, length-map}
use Rattle.lexauto.specs.Keys.{Key, At, Finds}
use Rattle.lexauto.specs.Interned.{befores_in, chained, found, lists_in, row_of}
use Rattle.lexauto.specs.KeyPacking.{kept_in, packed, unpacked}
use Rattle.lexauto.specs.declared.interner.KeptKey.{KeptKey}
use Rattle.lexauto.proofs.Places.{at_shorter}
use Rattle.lexauto.proofs.Kept.{kept_of_push, kept_length, says}

some_not_none : {i : ℕ} → None ≡ Some i → ⊥
some_not_none e = absurd cc

module _ (lists : List (List ℕ)) (befores : List ℕ) where
  abbrev next : ℕ → ℕ → List ℕ → Option ℕ
  next n at kept = chained lists befores n (slice_index_or befores at 0) kept

  -- what is found stands there
  pub found_stands : (n at : ℕ) (kept : List ℕ) (i : ℕ) → chained lists befores n at kept ≡ Some i → (i < length lists) × (slice_index_or lists i [] ≡ kept)
  found_stands zero at kept i h = absurd (some_not_none h)
  found_stands (suc n) at kept i h = elim (cases_Bool (nat_lt at (length lists))) [
    | inl y ↦ (let here = sym (cond-true (nat_lt at (length lists)) (cond (bytes_eq (slice_index_or lists at []) kept) (Some at) (next n at kept)) None y) ∙ h in
        elim (cases_Bool (bytes_eq (slice_index_or lists at []) kept)) [
          | inl same ↦ (let is : at ≡ i = (let e = sym (cond-true (bytes_eq (slice_index_or lists at []) kept) (Some at) (next n at kept) same) ∙ here in cc) in
              subst (λ (j : ℕ). (j < length lists) × (slice_index_or lists j [] ≡ kept)) is
              (ltb-true at (length lists) y, (bytes_decides (slice_index_or lists at []) kept).0 same))
          | inr other ↦ found_stands n (slice_index_or befores at 0) kept i
              (sym (cond-false (bytes_eq (slice_index_or lists at []) kept) (Some at) (next n at kept) other) ∙ here)
        ])
    | inr past ↦ absurd (some_not_none (sym (cond-false (nat_lt at (length lists)) (cond (bytes_eq (slice_index_or lists at []) kept) (Some at) (next n at kept)) None past) ∙ h))
  ]

  -- what is found is found in one place more
  pub found_further : (n at : ℕ) (kept : List ℕ) (i : ℕ) → chained lists befores n at kept ≡ Some i → chained lists befores (suc n) at kept ≡ Some i
  found_further zero at kept i h = absurd (some_not_none h)
  found_further (suc n) at kept i h = elim (cases_Bool (nat_lt at (length lists))) [
    | inl y ↦ (let here = sym (cond-true (nat_lt at (length lists)) (cond (bytes_eq (slice_index_or lists at []) kept) (Some at) (next n at kept)) None y) ∙ h in
        cond-true (nat_lt at (length lists)) (cond (bytes_eq (slice_index_or lists at []) kept) (Some at) (next (suc n) at kept)) None y
        ∙ elim (cases_Bool (bytes_eq (slice_index_or lists at []) kept)) [
          | inl same ↦ cond-true (bytes_eq (slice_index_or lists at []) kept) (Some at) (next (suc n) at kept) same
              ∙ sym (cond-true (bytes_eq (slice_index_or lists at []) kept) (Some at) (next n at kept) same) ∙ here
          | inr other ↦ cond-false (bytes_eq (slice_index_or lists at []) kept) (Some at) (next (suc n) at kept) other
              ∙ found_further n (slice_index_or befores at 0) kept i (sym (cond-false (bytes_eq (slice_index_or lists at []) kept) (Some at) (next n at kept) other) ∙ here)
        ])
    | inr past ↦ absurd (some_not_none (sym (cond-false (nat_lt at (length lists)) (cond (bytes_eq (slice_index_or lists at []) kept) (Some at) (next n at kept)) None past) ∙ h))
  ]

  module _ (list : List ℕ) (before : ℕ) (same_length : length befores ≡ length lists) where
    low_longer : (at : ℕ) → at < length lists → at < length (lists ++ list ∷ [])
    low_longer at h = omega (arith, h, length-append lists (list ∷ []))

    -- what is found is found in longer lists
    pub found_longer : (n at : ℕ) (kept : List ℕ) (i : ℕ) → chained lists befores n at kept ≡ Some i → chained (lists ++ list ∷ []) (befores ++ before ∷ []) n at kept ≡ Some i
    found_longer zero at kept i h = absurd (some_not_none h)
    found_longer (suc n) at kept i h = elim (cases_Bool (nat_lt at (length lists))) [
      | inl y ↦ (let low : at < length lists = ltb-true at (length lists) y in
          let here = sym (cond-true (nat_lt at (length lists)) (cond (bytes_eq (slice_index_or lists at []) kept) (Some at) (next n at kept)) None y) ∙ h in
          let rest = chained (lists ++ list ∷ []) (befores ++ before ∷ []) n (slice_index_or (befores ++ before ∷ []) at 0) kept in
          let list_is : slice_index_or (lists ++ list ∷ []) at [] ≡ slice_index_or lists at [] = get_or_append_left lists (list ∷ []) [] at low in
          let before_is : slice_index_or (befores ++ before ∷ []) at 0 ≡ slice_index_or befores at 0 =
          get_or_append_left befores (before ∷ []) 0 at (omega (arith, low, same_length)) in
          cond-true (nat_lt at (length (lists ++ list ∷ []))) (cond (bytes_eq (slice_index_or (lists ++ list ∷ []) at []) kept) (Some at) rest) None (lt-ltb at (length (lists ++ list ∷ [])) (low_longer at low))
          ∙ ap (λ (l : List ℕ). cond (bytes_eq l kept) (Some at) rest) list_is
          ∙ elim (cases_Bool (bytes_eq (slice_index_or lists at []) kept)) [
            | inl same ↦ cond-true (bytes_eq (slice_index_or lists at []) kept) (Some at) rest same
                ∙ sym (cond-true (bytes_eq (slice_index_or lists at []) kept) (Some at) (next n at kept) same) ∙ here
            | inr other ↦ cond-false (bytes_eq (slice_index_or lists at []) kept) (Some at) rest other
                ∙ ap (λ (b : ℕ). chained (lists ++ list ∷ []) (befores ++ before ∷ []) n b kept) before_is
                ∙ found_longer n (slice_index_or befores at 0) kept i (sym (cond-false (bytes_eq (slice_index_or lists at []) kept) (Some at) (next n at kept) other) ∙ here)
          ])
      | inr past ↦ absurd (some_not_none (sym (cond-false (nat_lt at (length lists)) (cond (bytes_eq (slice_index_or lists at []) kept) (Some at) (next n at kept)) None past) ∙ h))
    ]

    -- the list at the end is looked at, and then those before it in its row
    pub found_at_end : (n : ℕ) (kept : List ℕ) → chained (lists ++ list ∷ []) (befores ++ before ∷ []) (suc n) (length lists) kept
        ≡ cond (bytes_eq list kept) (Some (length lists)) (chained (lists ++ list ∷ []) (befores ++ before ∷ []) n before kept)
    found_at_end n kept =
        let rest : ℕ → Option ℕ = λ b. chained (lists ++ list ∷ []) (befores ++ before ∷ []) n b kept in
        let low : length lists < length (lists ++ list ∷ []) = omega (arith, length-append lists (list ∷ [])) in
        cond-true (nat_lt (length lists) (length (lists ++ list ∷ [])))
        (cond (bytes_eq (slice_index_or (lists ++ list ∷ []) (length lists) []) kept) (Some (length lists)) (rest (slice_index_or (befores ++ before ∷ []) (length lists) 0))) None (lt-ltb (length lists) (length (lists ++ list ∷ [])) low)
        ∙ ap (λ (l : List ℕ). cond (bytes_eq l kept) (Some (length lists)) (rest (slice_index_or (befores ++ before ∷ []) (length lists) 0))) (get_or_push lists list [] (length lists) refl)
        ∙ ap (λ (b : ℕ). cond (bytes_eq list kept) (Some (length lists)) (rest b)) (get_or_push befores before 0 (length lists) same_length)

-- a list that is kept for a key stands where the key does
stands_at : (keys : List KeptKey) (i : ℕ) (q : Key) → i < length (lists_in keys) → slice_index_or (lists_in keys) i [] ≡ packed q → At (kept_in keys) i q
stands_at [] i q h e = absurd (omega (arith, h))
stands_at (x ∷ keys) zero q h e = ap Some (ap unpacked e ∙ says q)
stands_at (x ∷ keys) (suc i) q h e = stands_at keys i q (omega (arith, h)) e

-- where the table finds a key, whose rows have these last places
abbrev pub finding : List KeptKey → (ℕ → ℕ) → Key → Option ℕ
finding keys lasts q = found keys (lasts (row_of (packed q))) (packed q)

module _ (keys : List KeptKey) (lasts lasts' : ℕ → ℕ) (new : KeptKey) (k : Key) where
  pub finds_added : new.key.items ≡ packed k → new.before ≡ lasts (row_of (packed k))
      → ((r : ℕ) → lasts' r ≡ cond (r == row_of (packed k)) (length keys) (lasts r))
      → Finds (finding keys lasts) (kept_in keys) → finding keys lasts k ≡ None
      → Finds (finding (keys ++ new ∷ []) lasts') (kept_in (keys ++ new ∷ []))
  finds_added is before last f none =
      let lists = lists_in keys in
      let befores = befores_in keys in
      let size : length lists ≡ length keys = length-map keys (λ (e : KeptKey). e.key.items) in
      let sizes : length befores ≡ length lists = length-map keys (λ (e : KeptKey). e.before) ∙ sym size in
      let lists_are : lists_in (keys ++ new ∷ []) ≡ lists ++ new.key.items ∷ [] = map-append (λ (e : KeptKey). e.key.items) keys (new ∷ []) in
      let befores_are : befores_in (keys ++ new ∷ []) ≡ befores ++ new.before ∷ [] = map-append (λ (e : KeptKey). e.before) keys (new ∷ []) in
      let more : length (keys ++ new ∷ []) ≡ suc (length keys) = omega (arith, length-append keys (new ∷ [])) in
      let finding_is : (at : ℕ) (q : Key) → found (keys ++ new ∷ []) at (packed q) ≡ chained (lists ++ new.key.items ∷ []) (befores ++ new.before ∷ []) (suc (length keys)) at (packed q) = λ at q.
      ap (λ (ls : List (List ℕ)). chained ls (befores_in (keys ++ new ∷ [])) (length (keys ++ new ∷ [])) at (packed q)) lists_are
      ∙ ap (λ (bs : List ℕ). chained (lists ++ new.key.items ∷ []) bs (length (keys ++ new ∷ [])) at (packed q)) befores_are
      ∙ ap (λ (n : ℕ). chained (lists ++ new.key.items ∷ []) (befores ++ new.before ∷ []) n at (packed q)) more in
      let at_last : (q : Key) → row_of (packed q) ≡ row_of (packed k) → finding (keys ++ new ∷ []) lasts' q
      ≡ cond (bytes_eq new.key.items (packed q)) (Some (length keys)) (chained (lists ++ new.key.items ∷ []) (befores ++ new.before ∷ []) (length keys) new.before (packed q)) = λ q row.
      ap (λ (at : ℕ). found (keys ++ new ∷ []) at (packed q))
      (last (row_of (packed q)) ∙ cond-true (row_of (packed q) == row_of (packed k)) (length keys) (lasts (row_of (packed q))) (eq-eqb (row_of (packed q)) (row_of (packed k)) row))
      ∙ finding_is (length keys) q
      ∙ ap (λ (at : ℕ). chained (lists ++ new.key.items ∷ []) (befores ++ new.before ∷ []) (suc (length keys)) at (packed q)) (sym size)
      ∙ found_at_end lists befores new.key.items new.before sizes (length keys) (packed q)
      ∙ ap (λ (n : ℕ). cond (bytes_eq new.key.items (packed q)) (Some n) (chained (lists ++ new.key.items ∷ []) (befores ++ new.before ∷ []) (length keys) new.before (packed q))) size in
      let kept_are : kept_in (keys ++ new ∷ []) ≡ kept_in keys ++ k ∷ [] = kept_of_push keys new ∙ ap (λ (u : Key). kept_in keys ++ u ∷ []) (ap unpacked is ∙ says k) in
      record {
        place = λ q i h. (let stands = found_stands (lists_in (keys ++ new ∷ [])) (befores_in (keys ++ new ∷ [])) (length (keys ++ new ∷ [])) (lasts' (row_of (packed q))) (packed q) i h in
            stands_at (keys ++ new ∷ []) i q stands.0 stands.1);
        all = λ q i h. elim (at_shorter (kept_in keys) k i q (subst (λ (ks : List Key). At ks i q) kept_are h)) [
          | inl o ↦ (let old : finding keys lasts q ≡ Some i = f.all q i o in
              let longer : (at : ℕ) → found keys at (packed q) ≡ Some i → chained (lists ++ new.key.items ∷ []) (befores ++ new.before ∷ []) (length keys) at (packed q) ≡ Some i = λ at e.
              found_longer lists befores new.key.items new.before sizes (length keys) at (packed q) i e in
              elim (cases_eq (row_of (packed q)) (row_of (packed k))) [
                | inl row ↦ elim (cases_Bool (bytes_eq new.key.items (packed q))) [
                  | inl same ↦ absurd (let key_is : k ≡ q = sym (says k) ∙ ap unpacked (sym is ∙ (bytes_decides new.key.items (packed q)).0 same) ∙ says q in
                      some_not_none (sym (subst (λ (l : Key). finding keys lasts l ≡ None) key_is none) ∙ old))
                  | inr other ↦ at_last q row ∙ cond-false (bytes_eq new.key.items (packed q)) (Some (length keys)) (chained (lists ++ new.key.items ∷ []) (befores ++ new.before ∷ []) (length keys) new.before (packed q)) other
                      ∙ longer new.before (ap (λ (at : ℕ). found keys at (packed q)) (before ∙ ap lasts (sym row)) ∙ old)
                ]
                | inr apart ↦ ap (λ (at : ℕ). found (keys ++ new ∷ []) at (packed q))
                    (last (row_of (packed q)) ∙ cond-false (row_of (packed q) == row_of (packed k)) (length keys) (lasts (row_of (packed q))) (ne_eqb (row_of (packed q)) (row_of (packed k)) apart))
                    ∙ finding_is (lasts (row_of (packed q))) q
                    ∙ found_further (lists ++ new.key.items ∷ []) (befores ++ new.before ∷ []) (length keys) (lasts (row_of (packed q))) (packed q) i (longer (lasts (row_of (packed q))) old)
              ])
          | inr o ↦ at_last q (ap (λ (u : Key). row_of (packed u)) o.1)
              ∙ cond-true (bytes_eq new.key.items (packed q)) (Some (length keys)) (chained (lists ++ new.key.items ∷ []) (befores ++ new.before ∷ []) (length keys) new.before (packed q))
              ((bytes_decides new.key.items (packed q)).1 (is ∙ ap packed (sym o.1)))
              ∙ ap Some (sym (o.0 ∙ kept_length keys))
        ];
      }

-- the key at a place, and what is found from there on
list_at : (keys : List KeptKey) (at : ℕ) (k : KeptKey) → at < length keys → k ≡ get_or keys at k
    → (slice_index_or (lists_in keys) at [] ≡ k.key.items) × (slice_index_or (befores_in keys) at 0 ≡ k.before)
list_at [] at k h e = absurd (omega (arith, h))
list_at (x ∷ keys) zero k h e = (ap (λ (u : KeptKey). u.key.items) (sym e), ap (λ (u : KeptKey). u.before) (sym e))
list_at (x ∷ keys) (suc at) k h e = list_at keys at k (omega (arith, h)) e

module _ (keys : List KeptKey) (n at : ℕ) (kept : List ℕ) where
  from_here : (k : KeptKey) → at < length keys → k ≡ get_or keys at k
      → chained (lists_in keys) (befores_in keys) (suc n) at kept ≡ cond (bytes_eq k.key.items kept) (Some at) (chained (lists_in keys) (befores_in keys) n k.before kept)
  from_here k low here =
      let rest : ℕ → Option ℕ = λ b. chained (lists_in keys) (befores_in keys) n b kept in
      let is = list_at keys at k low here in
      let size : length (lists_in keys) ≡ length keys = length-map keys (λ (e : KeptKey). e.key.items) in
      cond-true (nat_lt at (length (lists_in keys))) (cond (bytes_eq (slice_index_or (lists_in keys) at []) kept) (Some at) (rest (slice_index_or (befores_in keys) at 0))) None
      (lt-ltb at (length (lists_in keys)) (omega (arith, low, size)))
      ∙ ap (λ (l : List ℕ). cond (bytes_eq l kept) (Some at) (rest (slice_index_or (befores_in keys) at 0))) is.0
      ∙ ap (λ (b : ℕ). cond (bytes_eq k.key.items kept) (Some at) (rest b)) is.1

  pub found_here : (k : KeptKey) → at < length keys → k ≡ get_or keys at k → bytes_eq k.key.items kept ≡ true
      → chained (lists_in keys) (befores_in keys) (suc n) at kept ≡ Some at
  found_here k low here same = from_here k low here ∙ cond-true (bytes_eq k.key.items kept) (Some at) (chained (lists_in keys) (befores_in keys) n k.before kept) same

  pub found_before : (k : KeptKey) → at < length keys → k ≡ get_or keys at k → bytes_eq k.key.items kept ≡ false
      → chained (lists_in keys) (befores_in keys) n k.before kept ≡ chained (lists_in keys) (befores_in keys) (suc n) at kept
  found_before k low here other = sym (from_here k low here ∙ cond-false (bytes_eq k.key.items kept) (Some at) (chained (lists_in keys) (befores_in keys) n k.before kept) other)
