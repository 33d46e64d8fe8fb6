-- How a list of pairs grows.
use Rattle.std.proofs.Common.{◌≡◌, ◌⊎◌, ◌<◌, ◌≤◌, ◌+◌, ℕ, zero, suc, List, [], ◌∷◌, ◌++◌, length, Some, inl, inr, refl, sym, ap, subst, ◌∙◌, arith}
use Rattle.std.specs.Prelude.{slice_get}
use Rattle.std.proofs.lemmas.Bool.{cases_eq, cases_lt}
use Rattle.std.proofs.lemmas.List.{length_push}
use Rattle.lexlook_specs.specs.Matches.{RuleMatches}
use Rattle.lexlook_specs.specs.Overlaps.{AreOverlaps, ComesAfter, HasPair, IsOverlap, IsPairBefore, IsShared}
use Rattle.lexlook_specs.specs.Pairing.{IsUpTo}
use Rattle.lexlook_specs.specs.declared.words.overlapping.Overlap.{Overlap}

-- what a list has with an item more
pushed_at : {A : Type 0} (xs : List A) (x : A) (k : ℕ) (y : A) → slice_get (xs ++ x ∷ []) k ≡ Some y → ((k < length xs) × (slice_get xs k ≡ Some y)) ⊎ ((k ≡ length xs) × (x ≡ y))
pushed_at [] x zero y e = inr (refl, (let same : x ≡ y = cc in same))
pushed_at [] x (suc k) y e = absurd cc
pushed_at (z ∷ xs) x zero y e = inl ((omega arith), e)
pushed_at (z ∷ xs) x (suc k) y e = elim (pushed_at xs x k y e) [
  | inl h ↦ (let low = h.0 in inl ((omega (arith, low)), h.1))
  | inr h ↦ (let same = h.0 in inr ((omega (arith, same)), h.1))
]

kept_at : {A : Type 0} (xs : List A) (x : A) (k : ℕ) (y : A) → slice_get xs k ≡ Some y → slice_get (xs ++ x ∷ []) k ≡ Some y
kept_at [] x k y e = absurd cc
kept_at (z ∷ xs) x zero y e = e
kept_at (z ∷ xs) x (suc k) y e = kept_at xs x k y e

last_at : {A : Type 0} (xs : List A) (x : A) → slice_get (xs ++ x ∷ []) (length xs) ≡ Some x
last_at [] x = refl
last_at (z ∷ xs) x = last_at xs x

not_before_first : (a b : ℕ) → IsPairBefore a b 0 0 → ⊥
not_before_first a b (inl lt) = omega (arith, lt)
not_before_first a b (inr (e, lt)) = omega (arith, lt)

before_next : (a b i j : ℕ) → IsPairBefore a b i j → IsPairBefore a b i (j + 1)
before_next a b i j (inl lt) = inl lt
before_next a b i j (inr (e, lt)) = inr (e, omega (arith, lt))

next_before : (a b i j : ℕ) → IsPairBefore a b i (j + 1) → IsPairBefore a b i j ⊎ ((a ≡ i) × (b ≡ j))
next_before a b i j (inl lt) = inl (inl lt)
next_before a b i j (inr (e, lt)) = elim (cases_eq b j) [
  | inl same ↦ inr (e, same)
  | inr other ↦ inl (inr (e, omega (arith, lt, other)))
]

before_row : (a b i n : ℕ) → IsPairBefore a b i n → IsPairBefore a b (i + 1) 0
before_row a b i n (inl lt) = inl (omega (arith, lt))
before_row a b i n (inr (e, lt)) = inl (omega (arith, e))

row_before : (a b i n : ℕ) → b < n → IsPairBefore a b (i + 1) 0 → IsPairBefore a b i n
row_before a b i n low (inl lt) = elim (cases_eq a i) [
  | inl e ↦ inr (e, low)
  | inr other ↦ inl (omega (arith, lt, other))
]
row_before a b i n low (inr (e, lt)) = absurd (omega (arith, lt))

within_all : (a b n : ℕ) → a < b → b < n → IsPairBefore a b n 0
within_all a b n order low = inl (omega (arith, order, low))

module _ (m : RuleMatches) (most : ℕ) where
  pub none_yet : IsUpTo m most 0 0 []
  none_yet = record {
    few = omega arith;
    each = λ k x e. absurd cc;
    rising = λ k l x y lt e f. absurd cc;
    before = λ k x e. absurd cc;
    all = λ a b w order early shared. absurd (not_before_first a b early);
  }

  -- a pair that shares no text
  pub pair_passed : (i j : ℕ) (v : List Overlap) → ((w : List ℕ) → i < j → IsShared m i j w → ⊥) → IsUpTo m most i j v → IsUpTo m most i (j + 1) v
  pair_passed i j v none u = record {
    few = u.few;
    each = u.each;
    rising = u.rising;
    before = λ k x e. before_next x.first x.second i j (u.before k x e);
    all = λ a b w order early shared. elim (next_before a b i j early) [
      | inl h ↦ u.all a b w order h shared
      | inr same ↦ (let lt : i < j = (let e = same.0 in let f = same.1 in omega (arith, e, f, order)) in
          absurd (none w lt (subst (λ (k : ℕ). IsShared m k j w) same.0 (subst (λ (k : ℕ). IsShared m a k w) same.1 shared))))
    ];
  }

  -- a pair for which there is no room
  pub pair_left : (i j : ℕ) (v : List Overlap) → most ≤ length v → IsUpTo m most i j v → IsUpTo m most i (j + 1) v
  pair_left i j v full u = record {
    few = u.few;
    each = u.each;
    rising = u.rising;
    before = λ k x e. before_next x.first x.second i j (u.before k x e);
    all = λ a b w order early shared. elim (next_before a b i j early) [
      | inl h ↦ u.all a b w order h shared
      | inr same ↦ (let few = u.few in inr (
        (omega (arith, few, full)),
        λ k x e. subst (λ (n : ℕ). IsPairBefore x.first x.second n b) (sym same.0) (subst (λ (n : ℕ). IsPairBefore x.first x.second i n) (sym same.1) (u.before k x e)),
      ))
    ];
  }

  -- a pair more
  module _ (i j : ℕ) (v : List Overlap) (x : Overlap) (room : length v < most) (first : x.first ≡ i) (second : x.second ≡ j) (is : IsOverlap m x) (u : IsUpTo m most i j v) where
    earlier : (k : ℕ) (y : Overlap) → slice_get v k ≡ Some y → IsPairBefore y.first y.second x.first x.second
    earlier k y e = subst (λ (n : ℕ). IsPairBefore y.first y.second n x.second) (sym first) (subst (λ (n : ℕ). IsPairBefore y.first y.second i n) (sym second) (u.before k y e))

    each_of : (k : ℕ) (y : Overlap) → slice_get (v ++ x ∷ []) k ≡ Some y → IsOverlap m y
    each_of k y e = elim (pushed_at v x k y e) [
      | inl h ↦ u.each k y h.1
      | inr h ↦ subst (IsOverlap m) h.1 is
    ]

    rising_of : (k l : ℕ) (y z : Overlap) → k < l → slice_get (v ++ x ∷ []) k ≡ Some y → slice_get (v ++ x ∷ []) l ≡ Some z → IsPairBefore y.first y.second z.first z.second
    rising_of k l y z lt e f = elim (pushed_at v x l z f) [
      | inl h ↦ elim (pushed_at v x k y e) [
        | inl g ↦ u.rising k l y z lt g.1 h.1
        | inr g ↦ (let low = h.0 in let at = g.0 in absurd (omega (arith, low, at, lt)))
      ]
      | inr h ↦ elim (pushed_at v x k y e) [
        | inl g ↦ subst (λ (o : Overlap). IsPairBefore y.first y.second o.first o.second) h.1 (earlier k y g.1)
        | inr g ↦ (let one = h.0 in let at = g.0 in absurd (omega (arith, one, at, lt)))
      ]
    ]

    before_of : (k : ℕ) (y : Overlap) → slice_get (v ++ x ∷ []) k ≡ Some y → IsPairBefore y.first y.second i (j + 1)
    before_of k y e = elim (pushed_at v x k y e) [
      | inl h ↦ before_next y.first y.second i j (u.before k y h.1)
      | inr h ↦ subst (λ (o : Overlap). IsPairBefore o.first o.second i (j + 1)) h.1 (inr (first, omega (arith, second)))
    ]

    all_of : (a b : ℕ) (w : List ℕ) → a < b → IsPairBefore a b i (j + 1) → IsShared m a b w → HasPair (v ++ x ∷ []) a b ⊎ ComesAfter most (v ++ x ∷ []) a b
    all_of a b w order early shared = elim (next_before a b i j early) [
      | inl h ↦ elim (u.all a b w order h shared) [
        | inl t ↦ inl (t.0, t.1, kept_at v x t.0 t.1 t.2, t.3, t.4)
        | inr full ↦ (let len = full.0 in absurd (omega (arith, len, room)))
      ]
      | inr same ↦ inl (length v, x, last_at v x, first ∙ sym same.0, second ∙ sym same.1)
    ]

    pub pair_pushed : IsUpTo m most i (j + 1) (v ++ x ∷ [])
    pair_pushed = record {
      few = (let n = length_push v x in omega (arith, n, room));
      each = each_of;
      rising = rising_of;
      before = before_of;
      all = all_of;
    }

  module _ (count : (i j : ℕ) (w : List ℕ) → IsShared m i j w → j < m.count) where
    -- all pairs of a rule
    pub row_passed : (i : ℕ) (v : List Overlap) → IsUpTo m most i m.count v → IsUpTo m most (i + 1) 0 v
    row_passed i v u = record {
      few = u.few;
      each = u.each;
      rising = u.rising;
      before = λ k x e. before_row x.first x.second i m.count (u.before k x e);
      all = λ a b w order early shared. u.all a b w order (row_before a b i m.count (count a b w shared) early) shared;
    }

    -- all pairs
    pub all_passed : (v : List Overlap) → IsUpTo m most m.count 0 v → AreOverlaps m most v
    all_passed v u = record {
      few = u.few;
      each = u.each;
      rising = u.rising;
      all = λ i j w order shared. u.all i j w order (within_all i j m.count order (count i j w shared)) shared;
    }
