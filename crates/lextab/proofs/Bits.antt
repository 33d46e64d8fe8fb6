-- Bits of words as one row of bits.
use Rattle.std.specs.Prelude.{◌≡◌, ℕ, ◌+◌, ◌-◌, ◌*◌, ◌/◌, ◌%◌, ◌^◌, ◌<◌, ◌≤◌, ◌⊎◌, List, length, slice_index, max, bit_or}
use Rattle.std.proofs.Common.{inl, inr, refl, sym, ◌∙◌, ap, subst, arith, add-zero}
use Rattle.std.specs.Int.{bit_at}
use Rattle.std.proofs.lemmas.Nat.{div-add-mod', mod_below, pow_pos}
use Rattle.std.proofs.lemmas.Nat.Bits.{bit_at-zero, bit_at_or, bit_at-lt, bit_at_cat_low, bit_at_cat_high, bit_at_ones}
use Rattle.lextab.specs.Searching.{slot_bit, Hits, Misses, IsFirstFit, HasRoom}
use Rattle.lextab.proofs.Orders.{same_or_not, less_or_not}

pub place : (ws : List ℕ) (i q r : ℕ) → i ≡ 64 * q + r → r < 64 → slot_bit ws i ≡ bit_at (slice_index ws q) r
place ws i q r e h = let d : i / 64 ≡ q = omega arith in let m : i % 64 ≡ r = omega arith in rw (d, m) refl

shifted : (n r j : ℕ) → bit_at (n / 2 ^ r) j ≡ bit_at n (r + j)
shifted n r j =
    let h = bit_at_cat_high (n / 2 ^ r) r (n % 2 ^ r) (r + j) (mod_below n (2 ^ r) (pow_pos r)) (omega arith) in
    let e = div-add-mod' n (2 ^ r) in
    let s : r + j - r ≡ j = omega arith in
    sym (sym (ap (λ (m : ℕ). bit_at m (r + j)) e) ∙ h ∙ ap (λ (k : ℕ). bit_at (n / 2 ^ r) k) s)

low_bits : (n j : ℕ) → j < 64 → bit_at (n % 2 ^ 64) j ≡ bit_at n j
low_bits n j h = sym (bit_at_cat_low (n / 2 ^ 64) 64 (n % 2 ^ 64) j h) ∙ ap (λ (m : ℕ). bit_at m j) (div-add-mod' n (2 ^ 64))

shl_low : (n k j : ℕ) → j < k → j < 64 → bit_at (n * 2 ^ k % 2 ^ 64) j ≡ 0
shl_low n k j h g = low_bits (n * 2 ^ k) j g ∙ ap (λ (m : ℕ). bit_at m j) (sym (add-zero (n * 2 ^ k))) ∙ bit_at_cat_low n k 0 j h ∙ bit_at-zero j

shl_high : (n k j : ℕ) → k ≤ j → j < 64 → bit_at (n * 2 ^ k % 2 ^ 64) j ≡ bit_at n (j - k)
shl_high n k j h g = low_bits (n * 2 ^ k) j g ∙ ap (λ (m : ℕ). bit_at m j) (sym (add-zero (n * 2 ^ k))) ∙ bit_at_cat_high n k 0 j (pow_pos k) h

maxes : (a b x y : ℕ) → a ≡ x → b ≡ y → max a b ≡ max x y
maxes a b x y e f = rw (e, f) refl

high_part : (n r : ℕ) → r ≤ n → n - r + r ≡ n
high_part n r h = omega arith

-- the 64 bits from 64 q + r on, of two words
pub bits_are : (ws : List ℕ) (q r w0 w1 n : ℕ) → r < 64 → w0 ≡ slice_index ws q → w1 ≡ slice_index ws (q + 1) → w0 < 2 ^ 64 → n ≡ w1 * 2 ^ 64 + w0
    → (j : ℕ) → j < 64 → bit_at (n / 2 ^ r % 2 ^ 64) j ≡ slot_bit ws (64 * q + r + j)
bits_are ws q r w0 w1 n low f0 f1 fits is j h = low_bits (n / 2 ^ r) j h ∙ shifted n r j ∙ ap (λ (m : ℕ). bit_at m (r + j)) is ∙ elim (less_or_not (r + j) 64) [
  | inl lt ↦ bit_at_cat_low w1 64 w0 (r + j) lt ∙ ap (λ (m : ℕ). bit_at m (r + j)) f0 ∙ sym (place ws (64 * q + r + j) q (r + j) (omega arith) lt)
  | inr ge ↦ bit_at_cat_high w1 64 w0 (r + j) fits ge ∙ ap (λ (m : ℕ). bit_at m (r + j - 64)) f1 ∙ sym (place ws (64 * q + r + j) (q + 1) (r + j - 64) (omega arith) (omega arith))
]

-- the bits from a class of a word on
pub of_class : (ws : List ℕ) (w k bits : ℕ) → ((j : ℕ) → j < 64 → bit_at bits j ≡ slot_bit ws (64 * (w + k / 64) + k % 64 + j))
    → (j : ℕ) → j < 64 → bit_at bits j ≡ slot_bit ws (64 * w + k + j)
of_class ws w k bits x j h = (let e : 64 * (w + k / 64) + k % 64 + j ≡ 64 * w + k + j = omega arith in x j h ∙ ap (slot_bit ws) e)

-- entries fit where the last words begin, which are free
pub fits_at_end : (ws ks : List ℕ) (full w free : ℕ) → HasRoom ws full → free ≡ length ws - 5 → free ≤ w → ((c : ℕ) → c < 64 * w → Hits ws ks c)
    → IsFirstFit ws ks (64 * free)
fits_at_end ws ks full w free room is low hits = record {
  fits = λ j h. room.free (64 * free + slice_index ks j) (omega arith);
  first = λ c h. hits c (omega arith);
}

-- one more word that is full
pub one_more_full : (ws : List ℕ) (w : ℕ) → slice_index ws w ≡ 2 ^ 64 - 1 → ((i : ℕ) → i < 64 * w → slot_bit ws i ≡ 1) → (i : ℕ) → i < 64 * (w + 1) → slot_bit ws i ≡ 1
one_more_full ws w e all i h = elim (less_or_not i (64 * w)) [
  | inl lt ↦ all i lt
  | inr ge ↦ place ws i w (i - 64 * w) (omega arith) (omega arith) ∙ ap (λ (m : ℕ). bit_at m (i - 64 * w)) e ∙ bit_at_ones 64 (i - 64 * w) (omega arith)
]

one_of : (a b : ℕ) → a < 2 → b < 2 → max a b ≡ 1 → (a ≡ 1) ⊎ (b ≡ 1)
one_of a b h g e = grind arith

pub more_hits : (ws ks : List ℕ) (at bad new n : ℕ) → n < length ks → ((j : ℕ) → j < 64 → bit_at bad j ≡ 1 → Hits ws ks (at + j))
    → ((j : ℕ) → j < 64 → bit_at new j ≡ slot_bit ws (at + slice_index ks n + j))
    → (j : ℕ) → j < 64 → bit_at (bit_or bad new) j ≡ 1 → Hits ws ks (at + j)
more_hits ws ks at bad new n low hits is j h e = elim (one_of (bit_at bad j) (bit_at new j) (bit_at-lt bad j) (bit_at-lt new j) (sym (bit_at_or bad new j) ∙ e)) [
  | inl a ↦ hits j h a
  | inr b ↦ (let s : at + slice_index ks n + j ≡ at + j + slice_index ks n = omega arith in
      (n, low, ap (λ (i : ℕ). slot_bit ws i) (sym s) ∙ sym (is j h) ∙ b))
]

none_of : (a b : ℕ) → max a b ≡ 0 → (a ≡ 0) × (b ≡ 0)
none_of a b e = (omega arith, omega arith)

-- of the last entries, where n more come before them
pub earlier_misses : (ws ks : List ℕ) (at bad new n : ℕ) → ((j : ℕ) → j < 64 → bit_at bad j ≡ 0 → (m : ℕ) → n < m → m < length ks → slot_bit ws (at + j + slice_index ks m) ≡ 0)
    → ((j : ℕ) → j < 64 → bit_at new j ≡ slot_bit ws (at + slice_index ks n + j))
    → (j : ℕ) → j < 64 → bit_at (bit_or bad new) j ≡ 0 → (m : ℕ) → n ≤ m → m < length ks → slot_bit ws (at + j + slice_index ks m) ≡ 0
earlier_misses ws ks at bad new n misses is j h e m g l =
    let z = none_of (bit_at bad j) (bit_at new j) (sym (bit_at_or bad new j) ∙ e) in
    elim (same_or_not m n) [
      | inl q ↦ (let s : at + slice_index ks n + j ≡ at + j + slice_index ks n = omega arith in
          ap (λ (i : ℕ). slot_bit ws (at + j + slice_index ks i)) q ∙ ap (λ (i : ℕ). slot_bit ws i) (sym s) ∙ sym (is j h) ∙ z.1)
      | inr d ↦ misses j h z.0 m (omega arith) l
    ]

-- no bit of a full word is 0
pub no_zero : (n j : ℕ) → n ≡ 2 ^ 64 - 1 → j < 64 → bit_at n j ≡ 0 → ⊥
no_zero n j e h z = let o = bit_at_ones 64 j h in let s = ap (λ (m : ℕ). bit_at m j) e in let t : bit_at n j ≡ 1 = s ∙ o in omega (arith, sym z ∙ t)

-- the first place among 64 that is not blocked, where no lesser one fits
pub fits_here : (ws ks : List ℕ) (w bad t : ℕ)
    → ((j : ℕ) → j < 64 → bit_at bad j ≡ 1 → Hits ws ks (64 * w + j)) → ((j : ℕ) → j < 64 → bit_at bad j ≡ 0 → Misses ws ks (64 * w + j))
    → ((c : ℕ) → c < 64 * w → Hits ws ks c) → (t < 64) × (bit_at bad t ≡ 0) × ((i : ℕ) → i < t → bit_at bad i ≡ 1) → IsFirstFit ws ks (64 * w + t)
fits_here ws ks w bad t taken free before at = record {
  fits = free t at.0 at.1;
  first = λ c h. elim (less_or_not c (64 * w)) [
    | inl lt ↦ before c lt
    | inr ge ↦ (let low : c - 64 * w < t = omega arith in let lim = at.0 in let s : 64 * w + (c - 64 * w) ≡ c = omega arith in
        subst (λ (i : ℕ). Hits ws ks i) s (taken (c - 64 * w) (omega arith) (at.2 (c - 64 * w) low)))
  ];
}

-- 64 more places that are all blocked
pub no_fit_here : (ws ks : List ℕ) (w bad : ℕ) → bad ≡ 2 ^ 64 - 1
    → ((j : ℕ) → j < 64 → bit_at bad j ≡ 1 → Hits ws ks (64 * w + j)) → ((c : ℕ) → c < 64 * w → Hits ws ks c) → (c : ℕ) → c < 64 * (w + 1) → Hits ws ks c
no_fit_here ws ks w bad e taken before c h = elim (less_or_not c (64 * w)) [
  | inl lt ↦ before c lt
  | inr ge ↦ (let s : 64 * w + (c - 64 * w) ≡ c = omega arith in
      subst (λ (i : ℕ). Hits ws ks i) s (taken (c - 64 * w) (omega arith) (ap (λ (m : ℕ). bit_at m (c - 64 * w)) e ∙ bit_at_ones 64 (c - 64 * w) (omega arith))))
]

-- no place before the one at which the search starts fits
pub before_start : (ws ks : List ℕ) (full from past start : ℕ) → 0 < length ks → ((i : ℕ) → i < 64 * full → slot_bit ws i ≡ 1)
    → ((c : ℕ) → c < from → Hits ws ks c) → past ≡ 64 * full - slice_index ks 0 → 64 * start ≤ max past from
    → (c : ℕ) → c < 64 * start → Hits ws ks c
before_start ws ks full from past start some all hits is low c h = elim (less_or_not c from) [
  | inl lt ↦ hits c lt
  | inr ge ↦ (let g : c < past = omega arith in (0, some, all (c + slice_index ks 0) (omega arith)))
]
