-- A block's stretch is divided.
use Rattle.std.proofs.Common.{◌≡◌, ◌≢◌, ℕ, suc, ◌<◌, ◌≤◌, ◌⊎◌, List, [], ◌∷◌, ◌++◌, length, set, get_or, refl, ap, sym, subst, ◌∙◌, inl, inr, arith, get_or-set_other, get_or-set_same, length-set, length-append}
use Rattle.std.proofs.lemmas.List.{get_or_append_left, get_or-append-add}
use Rattle.std.specs.Prelude.{slice_index}
use Rattle.lexauto_dfa.specs.Arranged.{Arrangement, IsDivided}
use Rattle.lexauto_dfa.proofs.Swapped.{same_or_not}
use Rattle.lexauto_dfa.proofs.Pigeons.{at_most}

-- one changed, and one more
pub put : List ℕ → ℕ → ℕ → ℕ → List ℕ
put xs c v w = set xs c v ++ w ∷ []

pub put_is : (xs : List ℕ) (c v w : ℕ) → put xs c v w ≡ set xs c v ++ w ∷ []
unfolding put
put_is xs c v w = refl

pub put_length : (xs : List ℕ) (c v w : ℕ) → length (put xs c v w) ≡ suc (length xs)
unfolding put
put_length xs c v w = let e = length-append (set xs c v) (w ∷ []) in let f = length-set xs c v in omega (arith, e, f)

pub put_new : (xs : List ℕ) (c v w k : ℕ) → length xs ≡ k → slice_index (put xs c v w) k ≡ w
unfolding put
put_new xs c v w k e = ap (λ (i : ℕ). get_or (set xs c v ++ w ∷ []) i 0) (let f = length-set xs c v in omega (arith, e, f)) ∙ get_or-append-add (set xs c v) (w ∷ []) 0 0

pub put_at : (xs : List ℕ) (c v w : ℕ) → c < length xs → slice_index (put xs c v w) c ≡ v
unfolding put
put_at xs c v w h = get_or_append_left (set xs c v) (w ∷ []) 0 c (let f = length-set xs c v in omega (arith, h, f)) ∙ get_or-set_same xs c v 0 h

pub put_other : (xs : List ℕ) (c v w d : ℕ) → d < length xs → d ≢ c → slice_index (put xs c v w) d ≡ slice_index xs d
unfolding put
put_other xs c v w d h n = get_or_append_left (set xs c v) (w ∷ []) 0 d (let f = length-set xs c v in omega (arith, h, f)) ∙ get_or-set_other xs c d v 0 n

pub put_others : (first middle : List ℕ) (c kept piece e : ℕ) → length middle ≡ length first → e < length first → e ≢ c
    → (slice_index (put first c kept piece) e ≡ slice_index first e) × (slice_index (put middle c kept piece) e ≡ slice_index middle e)
put_others first middle c kept piece e m h n = (put_other first c kept piece e h n, put_other middle c kept piece e (omega (arith, m, h)) n)

low_or_last : (d k : ℕ) → d < suc k → (d < k) ⊎ (d ≡ k)
low_or_last d k h = grind arith

-- neither piece has marked states
pub put_touched : (first middle : List ℕ) (c kept piece e : ℕ) → length middle ≡ length first → c < length first → e < suc (length first)
    → slice_index (put first c kept piece) e < slice_index (put middle c kept piece) e → (e < length first) × (e ≢ c) × (slice_index first e < slice_index middle e)
put_touched first middle c kept piece e m low h t = elim (low_or_last e (length first) h) [
  | inr q ↦ absurd (let f = put_new first c kept piece e (sym q) in let g = put_new middle c kept piece e (m ∙ sym q) in omega (arith, f, g, t))
  | inl k ↦ elim (same_or_not e c) [
    | inl q ↦ absurd (let u : slice_index (put first c kept piece) c < slice_index (put middle c kept piece) c = subst (λ (i : ℕ). slice_index (put first c kept piece) i < slice_index (put middle c kept piece) i) q t in
        let f = put_at first c kept piece low in let g = put_at middle c kept piece (omega (arith, m, low)) in omega (arith, f, g, u))
    | inr n ↦ (let o = put_others first middle c kept piece e m k n in let f = o.0 in let g = o.1 in (k, n, omega (arith, f, g, t)))
  ]
]

module _ (order place block first middle end : List ℕ) (a : Arrangement order place block first middle end) where
  -- there are at most as many blocks as states
  pub few_blocks : length first ≤ length block
  few_blocks = at_most (length block) (length first) (λ d. slice_index order (slice_index first d)) (λ y. slice_index block y)
      (λ d h. a.known (slice_index first d) (let s = a.some d h in let w = a.within d h in omega (arith, s, w)))
      (λ d h. a.own d (slice_index first d) h (omega arith) (a.some d h))

  module _ (block2 : List ℕ) (c kept kept_end piece piece_end : ℕ) (low : c < length first)
      (d : IsDivided (slice_index first c) (slice_index end c) kept kept_end piece piece_end)
      (len : length block2 ≡ length block)
      (moved : (i : ℕ) → piece ≤ i → i < piece_end → slice_index block2 (slice_index order i) ≡ length first)
      (rest : (x : ℕ) → ((i : ℕ) → piece ≤ i → i < piece_end → slice_index order i ≢ x) → slice_index block2 x ≡ slice_index block x) where
    abbrev IsIn : ℕ → Type 0
    IsIn i = (piece ≤ i) × (i < piece_end)

    in_or_not : (i : ℕ) → IsIn i ⊎ (IsIn i → ⊥)
    in_or_not i = elim (less i piece) [
      | inl h ↦ inr (λ e. omega (arith, h, e.0))
      | inr h ↦ elim (less i piece_end) [ inl g ↦ inl (h, g) | inr g ↦ inr (λ e. omega (arith, g, e.1)) ]
    ]
      where
        less : (i j : ℕ) → (i < j) ⊎ (j ≤ i)
        less i j = grind arith

    in_low : (i : ℕ) → IsIn i → i < length block
    in_low i e = let w = a.within c low in let t = d.piece_to in omega (arith, e.1, w, t)

    pub moved_at : (x : ℕ) → x < length block → IsIn (slice_index place x) → slice_index block2 x ≡ length first
    moved_at x h e = ap (λ (y : ℕ). slice_index block2 y) (sym (a.back x h)) ∙ moved (slice_index place x) e.0 e.1

    pub rest_at : (x : ℕ) → (IsIn (slice_index place x) → ⊥) → slice_index block2 x ≡ slice_index block x
    rest_at x n = rest x (λ i f t e. n (subst (λ (j : ℕ). (piece ≤ j) × (j < piece_end)) (sym (a.forth i (in_low i (f, t))) ∙ ap (λ (y : ℕ). slice_index place y) e) (f, t)))

    order_rest : (i : ℕ) → i < length block → (IsIn i → ⊥) → slice_index block2 (slice_index order i) ≡ slice_index block (slice_index order i)
    order_rest i h n = rest_at (slice_index order i) (λ e. n (subst (λ (j : ℕ). IsIn j) (a.forth i h) e))

    was : (x : ℕ) → x < length block → IsIn (slice_index place x) → slice_index block x ≡ c
    was x h e = ap (λ (y : ℕ). slice_index block y) (sym (a.back x h)) ∙ a.own c (slice_index place x) low (let f = d.piece_from in omega (arith, f, e.0)) (let t = d.piece_to in omega (arith, t, e.1))

    first2 : List ℕ
    first2 = put first c kept piece

    middle2 : List ℕ
    middle2 = put middle c kept piece

    end2 : List ℕ
    end2 = put end c kept_end piece_end

    by_blocks : (P : ℕ → ℕ → ℕ → ℕ → Type 0) → P (length first) piece piece piece_end → P c kept kept kept_end
        → ((e : ℕ) → e < length first → e ≢ c → P e (slice_index first e) (slice_index middle e) (slice_index end e))
        → (e : ℕ) → e < length first2 → P e (slice_index first2 e) (slice_index middle2 e) (slice_index end2 e)
    unfolding first2 middle2 end2
    by_blocks P new old others e h = elim (low_or_last e (length first) (let l = put_length first c kept piece in omega (arith, l, h))) [
      | inr q ↦ subst (λ (e : ℕ). P e (slice_index first2 e) (slice_index middle2 e) (slice_index end2 e)) (sym q)
          (rw (put_new first c kept piece (length first) refl, put_new middle c kept piece (length first) a.middles, put_new end c kept_end piece_end (length first) a.ends) new)
      | inl k ↦ elim (same_or_not e c) [
        | inl q ↦ subst (λ (e : ℕ). P e (slice_index first2 e) (slice_index middle2 e) (slice_index end2 e)) (sym q)
            (rw (put_at first c kept piece low, put_at middle c kept piece (let m = a.middles in omega (arith, m, low)), put_at end c kept_end piece_end (let m = a.ends in omega (arith, m, low))) old)
        | inr n ↦ (rw (put_other first c kept piece e k n, put_other middle c kept piece e (let m = a.middles in omega (arith, m, k)) n, put_other end c kept_end piece_end e (let m = a.ends in omega (arith, m, k)) n) (others e k n))
      ]
    ]

    count2 : length first2 ≡ suc (length first)
    unfolding first2
    count2 = put_length first c kept piece

    numbered2 : (x : ℕ) → x < length block → slice_index block2 x < length first2
    numbered2 x h = elim (in_or_not (slice_index place x)) [
      | inl e ↦ (let m = moved_at x h e in let k = count2 in omega (arith, m, k))
      | inr n ↦ (let m = rest_at x n in let k = count2 in let l = a.numbered x h in omega (arith, m, k, l))
    ]

    -- where a state stands in the stretch of its block
    stands : (x : ℕ) → x < length block → (slice_index first2 (slice_index block2 x) ≤ slice_index place x) × (slice_index place x < slice_index end2 (slice_index block2 x))
    stands x h = by_blocks (λ e f m t. slice_index block2 x ≡ e → (f ≤ slice_index place x) × (slice_index place x < t))
        (λ q. elim (in_or_not (slice_index place x)) [
          | inl e ↦ e
          | inr n ↦ absurd (let m = rest_at x n in let l = a.numbered x h in omega (arith, m, l, q))
        ])
        (λ q. elim (in_or_not (slice_index place x)) [
          | inl e ↦ absurd (let m = moved_at x h e in omega (arith, m, q, low))
          | inr n ↦ (let b : slice_index block x ≡ c = sym (rest_at x n) ∙ q in
              elim (d.all (slice_index place x) (subst (λ (e : ℕ). slice_index first e ≤ slice_index place x) b (a.after x h)) (subst (λ (e : ℕ). slice_index place x < slice_index end e) b (a.before x h))) [
                | inl e ↦ absurd (n e)
                | inr e ↦ e
              ])
        ])
        (λ e k ne q. elim (in_or_not (slice_index place x)) [
          | inl i ↦ absurd (let m = moved_at x h i in omega (arith, m, q, k))
          | inr n ↦ (let b : slice_index block x ≡ e = sym (rest_at x n) ∙ q in
              (subst (λ (e : ℕ). slice_index first e ≤ slice_index place x) b (a.after x h), subst (λ (e : ℕ). slice_index place x < slice_index end e) b (a.before x h)))
        ])
        (slice_index block2 x) (numbered2 x h) refl

    own2 : (e i : ℕ) → e < length first2 → slice_index first2 e ≤ i → i < slice_index end2 e → slice_index block2 (slice_index order i) ≡ e
    own2 e i h = by_blocks (λ e f m t. f ≤ i → i < t → slice_index block2 (slice_index order i) ≡ e)
        (λ f t. moved i f t)
        (λ f t. order_rest i (let w = a.within c low in let k = d.kept_to in omega (arith, w, k, t)) (λ p. d.apart i p.0 p.1 f t)
        ∙ a.own c i low (let k = d.kept_from in omega (arith, k, f)) (let k = d.kept_to in omega (arith, k, t)))
        (λ e k n f t. let o = a.own e i k f t in
        order_rest i (let w = a.within e k in omega (arith, w, t)) (λ p. n (sym o ∙ a.own c i low (let q = d.piece_from in omega (arith, q, p.0)) (let q = d.piece_to in omega (arith, q, p.1)))) ∙ o)
        e h

    pub divided : Arrangement order place block2 (put first c kept piece) (put middle c kept piece) (put end c kept_end piece_end)
    unfolding first2 middle2 end2
    divided = record {
      few = let f = a.few in omega (arith, f, len);
      orders = a.orders ∙ sym len;
      places = a.places ∙ sym len;
      middles = put_length middle c kept piece ∙ ap suc a.middles ∙ sym (put_length first c kept piece);
      ends = put_length end c kept_end piece_end ∙ ap suc a.ends ∙ sym (put_length first c kept piece);
      known = λ i h. let r = a.known i (omega (arith, len, h)) in omega (arith, r, len);
      placed = λ i h. let r = a.placed i (omega (arith, len, h)) in omega (arith, r, len);
      back = λ x h. a.back x (omega (arith, len, h));
      forth = λ x h. a.forth x (omega (arith, len, h));
      numbered = λ x h. numbered2 x (omega (arith, len, h));
      after = λ x h. (stands x (omega (arith, len, h))).0;
      before = λ x h. (stands x (omega (arith, len, h))).1;
      own = own2;
      some = by_blocks (λ e f m t. f < t) d.piece_some d.kept_some (λ e k n. a.some e k);
      from = by_blocks (λ e f m t. f ≤ m) (omega arith) (omega arith) (λ e k n. a.from e k);
      to = by_blocks (λ e f m t. m ≤ t) (let h = d.piece_some in omega (arith, h)) (let h = d.kept_some in omega (arith, h)) (λ e k n. a.to e k);
      within = by_blocks (λ e f m t. t ≤ length block2) (let h = d.piece_to in let w = a.within c low in omega (arith, h, w, len)) (let h = d.kept_to in let w = a.within c low in omega (arith, h, w, len)) (λ e k n. let w = a.within e k in omega (arith, w, len));
    }
