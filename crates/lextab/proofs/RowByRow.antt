-- Rows of slots by classes of neighbours make a table that goes as the automaton does.
use Rattle.std.specs.Prelude.{◌≡◌, ℕ, zero, suc, ◌+◌, ◌-◌, ◌*◌, ◌<◌, ◌≤◌, ◌⊎◌, ◌==◌, ◌++◌, ◌∷◌, [], cond, List, length, replicate, take, slice_index}
use Rattle.std.specs.Int.Bits.{bit_or, bit_xor, xor_add_and}
use Rattle.std.proofs.Common.{inl, inr, refl, sym, ◌∙◌, ap, subst, arith}
use Rattle.std.proofs.lemmas.List.{length-append, length-replicate, get_or-replicate, get_or_append_left, get_or-append_right, get_or_push, take_all}
use Rattle.std.proofs.lemmas.Nat.{row_fits, mul-le, le_or_l, le_or_r, and_le_l, and_le_r}
use Rattle.lexauto_dfa.specs.Alike.{moves}
use Rattle.lextab.specs.Columns.{Packing, HasRanges, GoesAs, packed_step}
use Rattle.lextab.specs.Searching.{by_head}
use Rattle.lextab.specs.Unpacked.{TellsNext, TellChanges, AreNeighbours, AreRowByRow}
use Rattle.lextab.proofs.Orders.{same_or_not, less_or_not, test_same}

pub none_or : (a b : ℕ) → bit_or a b ≡ 0 → (a ≡ 0) × (b ≡ 0)
none_or a b e = let l = le_or_l a b in let r = le_or_r a b in (omega (arith, l, e), omega (arith, r, e))

pub none_xor : (a b : ℕ) → bit_xor a b ≡ 0 → a ≡ b
none_xor a b e = let s = xor_add_and a b in let l = and_le_l a b in let r = and_le_r a b in omega (arith, s, l, r, e)

-- one state more, whose row is marked
pub one_state_more : (next : List ℕ) (s : ℕ) (row old new : List ℕ) → TellChanges next s old → ((b : ℕ) → b < 256 → slice_index row b ≡ slice_index next (256 * s + b))
    → ((b : ℕ) → slice_index new b ≡ 0 → slice_index old b ≡ 0) → ((b : ℕ) → b < 255 → TellsNext row new b) → TellChanges next (s + 1) new
one_state_more next s row old new tell at before here r b h l none = elim (same_or_not r s) [
  | inl q ↦ ap (λ (j : ℕ). moves next j b) q ∙ sym (at b (omega (arith, l))) ∙ here b l none ∙ at (b + 1) (omega (arith, l)) ∙ ap (λ (j : ℕ). moves next j (b + 1)) (sym q)
  | inr ne ↦ tell r b (omega (arith, h, ne)) l (before b none)
]

-- a column that grew by copies of a number
pub resized : (old new : List ℕ) (m l count s : ℕ) → l ≡ length old → m ≡ length old → new ≡ take (l + count) old ++ replicate (l + count - m) s → new ≡ old ++ replicate count s
resized old new m l count s e f g =
    let more : l + count - m ≡ count = omega (arith, e, f) in
    g ∙ ap (λ (xs : List ℕ). xs ++ replicate (l + count - m) s) (take_all (l + count) old (omega (arith, e))) ∙ ap (λ (k : ℕ). old ++ replicate k s) more

pub same_neighbours : (next : List ℕ) (n i : ℕ) (cs ds hs is : List ℕ) → ds ≡ cs → is ≡ hs → AreNeighbours next n cs hs i → AreNeighbours next n ds is i
same_neighbours next n i cs ds hs is e f x = rw (e, f) x

-- each slot is that of a state and a class
pub place_of : (count n i : ℕ) → i < n * count → (s : ℕ) × (k : ℕ) × (s < n) × (k < count) × (s * count + k ≡ i)
place_of count zero i h = absurd (let e : zero * count ≡ 0 = omega arith in omega (arith, h, e))
place_of count (suc n) i h = elim (less_or_not i (n * count)) [
  | inl l ↦ (let r = place_of count n i l in (r.0, r.1, (let g = r.2 in omega (arith, g)), r.3, r.4))
  | inr ge ↦ (let e : suc n * count ≡ n * count + count = omega arith in
      (n, i - n * count, omega arith, omega (arith, h, e, ge), omega (arith, ge)))
]

-- one state more, whose slots are added at the end
pub one_row_more : (to : ℕ → ℕ → ℕ) (count s b : ℕ) (bases check next row bases' check' next' : List ℕ) → AreRowByRow to count s bases check next
    → length row ≡ count → ((k : ℕ) → k < count → slice_index row k ≡ to s k) → b ≡ length check
    → bases' ≡ bases ++ b ∷ [] → check' ≡ check ++ replicate count s → next' ≡ next ++ row → AreRowByRow to count (s + 1) bases' check' next'
one_row_more to count s b bases check next row bases' check' next' x len is at eb ec en = rw (eb, ec, en) (record {
  bases_len = (let l = length-append bases (b ∷ []) in let m = x.bases_len in omega (arith, l, m));
  base = λ r h. elim (same_or_not r s) [
    | inl q ↦ get_or_push bases b 0 r (x.bases_len ∙ sym q) ∙ at ∙ x.check_len ∙ ap (λ (m : ℕ). m * count) (sym q)
    | inr ne ↦ (let m = x.bases_len in get_or_append_left bases (b ∷ []) 0 r (omega (arith, h, ne, m)) ∙ x.base r (omega (arith, h, ne)))
  ];
  check_len = (let l = length-append check (replicate count s) in let r = length-replicate count s in let m = x.check_len in let e = one_more in omega (arith, l, r, m, e));
  next_len = (let l = length-append next row in let m = x.next_len in let e = one_more in omega (arith, l, len, m, e));
  state = λ r k h l. elim (same_or_not r s) [
    | inl q ↦ (let m : length check ≡ r * count = x.check_len ∙ ap (λ (j : ℕ). j * count) (sym q) in let e : r * count + k - r * count ≡ k = omega arith in
        get_or-append_right check (replicate count s) (r * count) (r * count + k) 0 m (omega arith)
        ∙ ap (λ (j : ℕ). slice_index (replicate count s) j) e ∙ get_or-replicate count k s 0 l ∙ sym q)
    | inr ne ↦ (let f = inside r k (omega (arith, h, ne)) l in let m = x.check_len in
        get_or_append_left check (replicate count s) 0 (r * count + k) (omega (arith, f, m)) ∙ x.state r k (omega (arith, h, ne)) l)
  ];
  target = λ r k h l. elim (same_or_not r s) [
    | inl q ↦ (let m : length next ≡ r * count = x.next_len ∙ ap (λ (j : ℕ). j * count) (sym q) in let e : r * count + k - r * count ≡ k = omega arith in
        get_or-append_right next row (r * count) (r * count + k) 0 m (omega arith) ∙ ap (λ (j : ℕ). slice_index row j) e ∙ is k l ∙ ap (λ (j : ℕ). to j k) (sym q))
    | inr ne ↦ (let f = inside r k (omega (arith, h, ne)) l in let m = x.next_len in
        get_or_append_left next row 0 (r * count + k) (omega (arith, f, m)) ∙ x.target r k (omega (arith, h, ne)) l)
  ];
})
  where
    one_more : (s + 1) * count ≡ s * count + count
    one_more = omega arith

    inside : (r k : ℕ) → r < s → k < count → r * count + k < s * count
    inside r k h l = let f = row_fits r count s count h (omega arith) in omega (arith, f, l)

-- a byte more, of the class of the byte before or of a new one
pub one_byte_more : (next changes : List ℕ) (n i : ℕ) (cls hs : List ℕ) → TellChanges next n changes → AreNeighbours next n cls hs i → i < 256 → 0 < i → slice_index changes (i - 1) ≡ 0
    → (c : ℕ) → c + 1 ≡ length hs → AreNeighbours next n (cls ++ c ∷ []) hs (i + 1)
one_byte_more next changes n i cls hs tell x low some none c at = let len = x.len in let few = x.few in record {
  len = (let l = length-append cls (c ∷ []) in omega (arith, l, len));
  few = omega (arith, few);
  below = λ b h. elim (same_or_not b i) [
    | inl q ↦ (let e = get_or_push cls c 0 b (len ∙ sym q) in omega (arith, e, at))
    | inr ne ↦ (let e = get_or_append_left cls (c ∷ []) 0 b (omega (arith, h, ne, len)) in let l = x.below b (omega (arith, h, ne)) in omega (arith, e, l))
  ];
  last = λ b h. (let e = get_or_push cls c 0 b (omega (arith, h, len)) in omega (arith, e, at));
  head = λ k h. (let l = x.head k h in omega (arith, l));
  alike = λ s b h l. elim (same_or_not b i) [
    | inr ne ↦ ap (λ (k : ℕ). moves next s (slice_index hs k)) (get_or_append_left cls (c ∷ []) 0 b (omega (arith, l, ne, len))) ∙ x.alike s b h (omega (arith, l, ne))
    | inl q ↦ (let p : slice_index cls (i - 1) ≡ c = (let w = x.last (i - 1) (omega (arith, some)) in omega (arith, w, at)) in
        let u : i - 1 + 1 ≡ b = omega (arith, q, some) in
        ap (λ (k : ℕ). moves next s (slice_index hs k)) (get_or_push cls c 0 b (len ∙ sym q) ∙ sym p) ∙ x.alike s (i - 1) h (omega (arith, some))
        ∙ tell s (i - 1) h (omega (arith, some, low)) none ∙ ap (λ (j : ℕ). moves next s j) u)
  ];
  all = λ e. absurd (omega (arith, e, few));
}

pub one_class_more : (next : List ℕ) (n i : ℕ) (cls hs : List ℕ) → AreNeighbours next n cls hs i → AreNeighbours next n (cls ++ length hs ∷ []) (hs ++ i ∷ []) (i + 1)
one_class_more next n i cls hs x = let len = x.len in let few = x.few in let more = length-append hs (i ∷ []) in record {
  len = (let l = length-append cls (length hs ∷ []) in omega (arith, l, len));
  few = omega (arith, few, more);
  below = λ b h. elim (same_or_not b i) [
    | inl q ↦ (let e = get_or_push cls (length hs) 0 b (len ∙ sym q) in omega (arith, e, more))
    | inr ne ↦ (let e = get_or_append_left cls (length hs ∷ []) 0 b (omega (arith, h, ne, len)) in let l = x.below b (omega (arith, h, ne)) in omega (arith, e, l, more))
  ];
  last = λ b h. (let e = get_or_push cls (length hs) 0 b (omega (arith, h, len)) in omega (arith, e, more));
  head = λ k h. elim (same_or_not k (length hs)) [
    | inl q ↦ (let e = get_or_push hs i 0 k (sym q) in omega (arith, e))
    | inr ne ↦ (let e = get_or_append_left hs (i ∷ []) 0 k (omega (arith, h, ne, more)) in let l = x.head k (omega (arith, h, ne, more)) in omega (arith, e, l))
  ];
  alike = λ s b h l. elim (same_or_not b i) [
    | inl q ↦ ap (λ (k : ℕ). moves next s (slice_index (hs ++ i ∷ []) k)) (get_or_push cls (length hs) 0 b (len ∙ sym q)) ∙ ap (λ (j : ℕ). moves next s j) (get_or_push hs i 0 (length hs) refl ∙ sym q)
    | inr ne ↦ (let lo : b < i = omega (arith, l, ne) in
        ap (λ (k : ℕ). moves next s (slice_index (hs ++ i ∷ []) k)) (get_or_append_left cls (length hs ∷ []) 0 b (omega (arith, lo, len)))
        ∙ ap (λ (j : ℕ). moves next s j) (get_or_append_left hs (i ∷ []) 0 (slice_index cls b) (x.below b lo)) ∙ x.alike s b h lo)
  ];
  all = λ e k h. elim (same_or_not k i) [
    | inl q ↦ (let w : length hs ≡ k = omega (arith, e, more, q) in get_or_push hs i 0 k w ∙ sym q)
    | inr ne ↦ (let w : length hs ≡ i = omega (arith, e, more) in get_or_append_left hs (i ∷ []) 0 k (omega (arith, h, ne, w)) ∙ x.all w k (omega (arith, h, ne)))
  ];
}

module _ (next : List ℕ) (n : ℕ) (cls hs bs cs xs : List ℕ) (size : length next ≡ 256 * n) (some : 0 < n) (low : (i : ℕ) → i < length next → slice_index next i < n)
    (dead : (b : ℕ) → b < 256 → slice_index next b ≡ 0) (x : AreNeighbours next n cls hs 256) (r : AreRowByRow (by_head next hs) (length hs) n bs cs xs) where
  abbrev count : ℕ
  count = length hs

  abbrev columns : Packing
  columns = record { class_of = cls; class_count = count; defaults = replicate n 0; bases = bs; check = cs; next = xs }

  whole_row : (s : ℕ) → s < n → s * count + count ≤ n * count
  whole_row s h = row_fits s count n count h (omega arith)

  target_low : (s k : ℕ) → s < n → k < count → by_head next hs s k < n
  target_low s k h l = low (256 * s + slice_index hs k) (let e = x.head k l in omega (arith, e, h, size))

  no_default : (s : ℕ) → s < n → slice_index (replicate n 0) s ≡ 0
  no_default s h = get_or-replicate n s 0 0 h

  slot : (i : ℕ) → i < length cs → ((slice_index cs i ≡ 0) × (slice_index xs i ≡ 0))
      ⊎ ((1 ≤ slice_index cs i) × (slice_index cs i < n) × (slice_index bs (slice_index cs i) ≤ i) × (i < slice_index bs (slice_index cs i) + count) × (slice_index xs i < n))
  slot i h =
      let p = place_of count n i (let l = r.check_len in omega (arith, h, l)) in
      let here = p.4 in let in_row = p.3 in let known = p.2 in
      let is : slice_index cs i ≡ p.0 = ap (λ (j : ℕ). slice_index cs j) (sym here) ∙ r.state p.0 p.1 p.2 p.3 in
      let to : slice_index xs i ≡ by_head next hs p.0 p.1 = ap (λ (j : ℕ). slice_index xs j) (sym here) ∙ r.target p.0 p.1 p.2 p.3 in
      elim (same_or_not p.0 0) [
        | inl z ↦ (let first : 256 * 0 + slice_index hs p.1 ≡ slice_index hs p.1 = omega arith in
            inl (is ∙ z, to ∙ ap (λ (s : ℕ). by_head next hs s p.1) z ∙ ap (λ (j : ℕ). slice_index next j) first ∙ dead (slice_index hs p.1) (x.head p.1 p.3)))
        | inr ne ↦ (let base : slice_index bs (slice_index cs i) ≡ p.0 * count = ap (λ (s : ℕ). slice_index bs s) is ∙ r.base p.0 p.2 in let t = target_low p.0 p.1 p.2 p.3 in
            inr (omega (arith, is, ne), omega (arith, is, known), omega (arith, base, here), omega (arith, base, here, in_row), omega (arith, to, t)))
      ]

  ranges : HasRanges n columns
  ranges = record {
    some_class = (let l = x.below 0 (omega arith) in omega (arith, l));
    classes = x.few;
    slots = (let l = whole_row 0 some in let e = r.check_len in omega (arith, l, e));
    few_slots = (let l = mul-le n count n 256 (omega arith) x.few in let e = r.check_len in omega (arith, l, e));
    default = λ s h. (let e = no_default s h in omega (arith, e, some));
    dead_default = no_default 0 some;
    dead_base = (let e = r.base 0 some in omega (arith, e));
    base = λ s h. (let e = r.base s h in let l = whole_row s h in let m = r.check_len in omega (arith, e, l, m));
    slot = slot;
  }

  step : (s b : ℕ) → s < n → b < 256 → packed_step columns s b ≡ moves next s b
  step s b h l =
      let k = slice_index cls b in
      let within = x.below b l in
      let here : slice_index bs s + k ≡ s * count + k = ap (λ (m : ℕ). m + k) (r.base s h) in
      let is : slice_index cs (slice_index bs s + k) ≡ s = ap (λ (j : ℕ). slice_index cs j) here ∙ r.state s k h within in
      chosen (slice_index cs (slice_index bs s + k)) s (slice_index xs (slice_index bs s + k)) (slice_index (replicate n 0) s) is
      ∙ ap (λ (j : ℕ). slice_index xs j) here ∙ r.target s k h within ∙ x.alike s b h l
    where
      chosen : (a b c d : ℕ) → a ≡ b → cond (a == b) c d ≡ c
      chosen a b c d e = rw (test_same a b e) refl

  pub goes_as : GoesAs n (moves next) columns
  goes_as = record {
    ranges = ranges;
    bytes = x.len;
    class_of = x.below;
    defaults_len = length-replicate n 0;
    bases_len = r.bases_len;
    next_len = r.next_len ∙ sym r.check_len;
    steps = step;
  }

pub goes_by_columns : (next : List ℕ) (n : ℕ) (cls hs is bs cs xs ds : List ℕ) (count : ℕ) → is ≡ hs → count ≡ length hs → ds ≡ replicate n 0
    → length next ≡ 256 * n → 0 < n → ((i : ℕ) → i < length next → slice_index next i < n) → ((b : ℕ) → b < 256 → slice_index next b ≡ 0)
    → AreNeighbours next n cls hs 256 → AreRowByRow (by_head next is) (length is) n bs cs xs
    → GoesAs n (moves next) (record { class_of = cls; class_count = count; defaults = ds; bases = bs; check = cs; next = xs })
goes_by_columns next n cls hs is bs cs xs ds count e f g size some low dead x r = rw (f, g) (goes_as next n cls hs bs cs xs size some low dead x (subst (λ (l : List ℕ). AreRowByRow (by_head next l) (length l) n bs cs xs) e r))
