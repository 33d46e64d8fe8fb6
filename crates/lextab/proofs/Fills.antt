-- Filling the slots of one state after another.
use Rattle.std.specs.Prelude.{◌≡◌, ◌≢◌, ℕ, zero, suc, ◌+◌, ◌<◌, ◌≤◌, ◌⊎◌, List, length, slice_index}
use Rattle.std.proofs.Common.{inl, inr, sym, ◌∙◌, ap, subst, arith, set, get_or-set_other, get_or-set_same}
use Rattle.lextab.specs.Columns.{IsEntry, IsTaken, IsBase, AreSlots, AreRows}
use Rattle.lextab.specs.Searching.{AreFilled}
use Rattle.lextab.proofs.Orders.{same_or_not}
use Rattle.lextab.proofs.Placements.{later}
use Rattle.lextab.proofs.Counts.{default_same}

-- whether the slot i is that of one of the first n classes whose target is not d
entry_or_none : (row : ℕ → ℕ) (d b n i : ℕ) → ((k : ℕ) × (k < n) × (row k ≢ d) × (b + k ≡ i)) ⊎ ((k : ℕ) → k < n → row k ≢ d → b + k ≢ i)
entry_or_none row d b zero i = inr (λ k h. absurd (omega arith))
entry_or_none row d b (suc n) i = elim (entry_or_none row d b n i) [
  | inl w ↦ inl (w.0, (let l = w.1 in omega arith), w.2, w.3)
  | inr none ↦ elim (same_or_not (b + n) i) [
    | inr apart ↦ inr (λ k h o e. none k (not_last k n h (λ q. apart (ap (λ (m : ℕ). b + m) (sym q) ∙ e))) o e)
    | inl here ↦ elim (same_or_not (row n) d) [
      | inr o ↦ inl (n, omega arith, o, here)
      | inl q ↦ inr (λ k h o e. none k (not_last k n h (λ r. o (ap row r ∙ q))) o e)
    ]
  ]
]
  where
    not_last : (k n : ℕ) → k < suc n → k ≢ n → k < n
    not_last k n h ne = omega arith

-- one more class, whose target is written or is d
pub more_filled : (row : ℕ → ℕ) (d b s n : ℕ) (check next c x : List ℕ) → AreFilled row d b s n check next c x → b + n < length c → b + n < length x → row n ≢ d
    → AreFilled row d b s (n + 1) check next (set c (b + n) s) (set x (b + n) (row n))
more_filled row d b s n check next c x f h g o = record {
  used = λ k l e. elim (same_or_not k n) [
    | inl q ↦ (let at : b + k ≡ b + n = omega arith in
        (ap (λ (i : ℕ). slice_index (set c (b + n) s) i) at ∙ get_or-set_same c (b + n) s 0 h, ap (λ (i : ℕ). slice_index (set x (b + n) (row n)) i) at ∙ get_or-set_same x (b + n) (row n) 0 g ∙ ap row (sym q)))
    | inr ne ↦ (let u = f.used k (omega arith) e in let apart : b + k ≢ b + n = (λ q. ne (omega arith)) in
        (get_or-set_other c (b + n) (b + k) s 0 apart ∙ u.0, get_or-set_other x (b + n) (b + k) (row n) 0 apart ∙ u.1))
  ];
  rest = λ i none. (let r = f.rest i (λ k l e. none k (omega arith) e) in
      let apart : i ≢ b + n = (λ q. none n (omega arith) o (sym q)) in
      (get_or-set_other c (b + n) i s 0 apart ∙ r.0, get_or-set_other x (b + n) i (row n) 0 apart ∙ r.1));
}

pub same_filled : (row : ℕ → ℕ) (d b s n : ℕ) (check next c x : List ℕ) → AreFilled row d b s n check next c x → row n ≡ d → AreFilled row d b s (n + 1) check next c x
same_filled row d b s n check next c x f q = record {
  used = λ k l e. f.used k (below k (λ r. e (ap row r ∙ q)) l) e;
  rest = λ i none. f.rest i (λ k l e. none k (omega arith) e);
}
  where
    below : (k : ℕ) → k ≢ n → k < n + 1 → k < n
    below k ne h = omega arith

pub one_more_filled : (to : ℕ → ℕ → ℕ) (count : ℕ) (ds bases : List ℕ) (s : ℕ) (row : ℕ → ℕ) (check next check' next' : List ℕ)
    → AreSlots s to count ds bases check next → IsBase to count ds bases s (slice_index bases s) → ((k : ℕ) → k < count → row k ≡ to s k)
    → AreFilled row (slice_index ds s) (slice_index bases s) s count check next check' next' → length check' ≡ length check
    → AreSlots (s + 1) to count ds bases check' next'
one_more_filled to count ds bases s row check next check' next' x base is filled size = record {
  used = λ r k h e. elim (same_or_not r s) [
    | inl q ↦ subst (λ (n : ℕ). (slice_index check' (slice_index bases n + k) ≡ n) × (slice_index next' (slice_index bases n + k) ≡ to n k)) (sym q)
        (here k (subst (λ (n : ℕ). IsEntry to count ds n k) q e))
    | inr d ↦ before r k (omega arith) e
  ];
  rest = λ i h. elim (entry_or_none row (slice_index ds s) (slice_index bases s) count i) [
    | inl w ↦ inl (record { state = s; class = w.0; before = omega arith; entry = entry_is w.0 w.1 w.2; here = w.3 })
    | inr o ↦ (let f = filled.rest i o in elim (x.rest i (omega arith)) [
      | inl t ↦ inl (later to count ds bases s i t)
      | inr z ↦ inr (f.0 ∙ z.0, f.1 ∙ z.1)
    ])
  ];
}
  where
    entry_is : (k : ℕ) → k < count → row k ≢ slice_index ds s → IsEntry to count ds s k
    entry_is k h o = record { class = h; other = λ z. o (is k h ∙ z) }

    here : (k : ℕ) → IsEntry to count ds s k → (slice_index check' (slice_index bases s + k) ≡ s) × (slice_index next' (slice_index bases s + k) ≡ to s k)
    here k e = let u = filled.used k e.class (λ z. e.other (sym (is k e.class) ∙ z)) in (u.0, u.1 ∙ is k e.class)

    before : (r k : ℕ) → r < s → IsEntry to count ds r k → (slice_index check' (slice_index bases r + k) ≡ r) × (slice_index next' (slice_index bases r + k) ≡ to r k)
    before r k h e = let u = x.used r k h e in
        let f = filled.rest (slice_index bases r + k) (λ j g o q. base.fits j (entry_is j g o) (record { state = r; class = k; before = h; entry = e; here = sym q })) in
        (f.0 ∙ u.0, f.1 ∙ u.1)

-- rows that have the same targets pack alike
entry_to : (n : ℕ) (to go : ℕ → ℕ → ℕ) (count : ℕ) (ds : List ℕ) → ((s k : ℕ) → s < n → k < count → to s k ≡ go s k)
    → (s k : ℕ) → s < n → IsEntry to count ds s k → IsEntry go count ds s k
entry_to n to go count ds same s k h e = record { class = e.class; other = λ z. e.other (same s k h e.class ∙ z) }

taken_to : (n : ℕ) (to go : ℕ → ℕ → ℕ) (count : ℕ) (ds bs : List ℕ) → ((s k : ℕ) → s < n → k < count → to s k ≡ go s k)
    → (s i : ℕ) → s ≤ n → IsTaken to count ds bs s i → IsTaken go count ds bs s i
taken_to n to go count ds bs same s i h t = record {
  state = t.state;
  class = t.class;
  before = t.before;
  entry = entry_to n to go count ds same t.state t.class (let b = t.before in omega arith) t.entry;
  here = t.here;
}

base_to : (n : ℕ) (to go : ℕ → ℕ → ℕ) (count : ℕ) (ds bs : List ℕ) → ((s k : ℕ) → s < n → k < count → to s k ≡ go s k)
    → (s b : ℕ) → s < n → IsBase to count ds bs s b → IsBase go count ds bs s b
base_to n to go count ds bs same s b h x = record {
  fits = λ k e t. x.fits k (entry_to n go to count ds back s k h e) (taken_to n go to count ds bs back s (b + k) (omega arith) t);
  least = λ c l f. x.least c l (λ k e t. f k (entry_to n to go count ds same s k h e) (taken_to n to go count ds bs same s (c + k) (omega arith) t));
}
  where
    back : (s k : ℕ) → s < n → k < count → go s k ≡ to s k
    back s k h l = sym (same s k h l)

slots_to : (n : ℕ) (to go : ℕ → ℕ → ℕ) (count : ℕ) (ds bs cs xs : List ℕ) → ((s k : ℕ) → s < n → k < count → to s k ≡ go s k)
    → AreSlots n to count ds bs cs xs → AreSlots n go count ds bs cs xs
slots_to n to go count ds bs cs xs same x = record {
  used = λ s k h e. (let u = x.used s k h (entry_to n go to count ds (λ r j g l. sym (same r j g l)) s k h e) in (u.0, u.1 ∙ same s k h e.class));
  rest = λ i h. elim (x.rest i h) [ inl t ↦ inl (taken_to n to go count ds bs same n i (omega arith) t) | inr z ↦ inr z ];
}

pub rows_to : (n : ℕ) (to go : ℕ → ℕ → ℕ) (count : ℕ) (ds bs cs xs : List ℕ) → ((s k : ℕ) → s < n → k < count → to s k ≡ go s k)
    → AreRows n to count ds bs cs xs → AreRows n go count ds bs cs xs
rows_to n to go count ds bs cs xs same x = record {
  defaults_len = x.defaults_len;
  default = λ s h. default_same (to s) (go s) count (slice_index ds s) (λ k l. same s k h l) (x.default s h);
  bases_len = x.bases_len;
  base = λ s h. base_to n to go count ds bs same s (slice_index bs s) h (x.base s h);
  check_len = x.check_len;
  next_len = x.next_len;
  slots = slots_to n to go count ds bs cs xs same x.slots;
}
