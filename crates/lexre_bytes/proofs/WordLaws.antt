-- Facts on words of 128 bits.
use Rattle.std.proofs.Common.{◌≡◌, ℕ, zero, suc, ◌+◌, ◌-◌, ◌*◌, ◌/◌, ◌%◌, ◌^◌, ◌<◌, ◌≤◌, Bool, true, false, bit_or, bit_xor, min, max, refl, sym, ap, ◌∙◌, ⊎_elim, arith}
use Rattle.std.specs.Prelude.{◌==◌}
use Rattle.std.specs.Int.{bit_at, trailing_zeros, w128}
use Rattle.std.specs.Int.Count.{trailing_of_zero}
use Rattle.std.proofs.lemmas.Bool.{cases_lt, le-leb, lt-leb}
use Rattle.std.proofs.lemmas.Nat.{shr-shr, xor_lt}
use Rattle.std.proofs.lemmas.Nat.Bits.{bit_at-lt, bit_at-suc, bit_at-trailing_zeros, bit_at-zero, bit_at_above, bit_at_cat_low, bit_at_lowest, bit_at_or, bit_at_xor, bit_at_mask_inside, bit_at_mask_below, bit_at_mask_above}
use Rattle.lex_semantics.specs.ByteSets.{has, within, range_set}
use Rattle.std.proofs.Math.Bool.{xor}
use Rattle.lexre_bytes.specs.Halves.{joined}
use Rattle.lexre_bytes.proofs.SetLaws.{joined_is, has-joined_low, has-joined_high}

-- the bits after one of them
pub bits_after : (n bit i : ℕ) → bit_at (n / 2 ^ bit / 2 ^ 1) i ≡ bit_at n (bit + 1 + i)
bits_after n bit i = ap (λ x. x / 2 ^ i % 2) (shr-shr n bit 1) ∙ ap (λ x. x % 2) (shr-shr n (bit + 1) i)

-- the same at its place in the whole word
pub bit_after : (n bit i : ℕ) → bit < i → bit_at n i ≡ bit_at (n / 2 ^ bit / 2 ^ 1) (i - bit - 1)
bit_after n bit i after = let e : i ≡ bit + 1 + (i - bit - 1) = omega (arith, after) in ap (bit_at n) e ∙ sym (bits_after n bit (i - bit - 1))

-- whether a byte is from lo to hi, where it is and where it is not

pub is_within : (lo hi b : ℕ) → lo ≤ b → b ≤ hi → within lo hi b ≡ true
is_within lo hi b h k = rw (le-leb lo b h, le-leb b hi k) refl

pub not_from : (lo hi b : ℕ) → b < lo → within lo hi b ≡ false
not_from lo hi b h = rw (lt-leb lo b h) refl

pub not_to : (lo hi b : ℕ) → hi < b → within lo hi b ≡ false
not_to lo hi b h = ⊎_elim (λ below. not_from lo hi b below) (λ above. rw (le-leb lo b above, lt-leb b hi h) refl) (cases_lt b lo)

-- a bit is in a run of ones where the byte is in the range
run_test : (lo hi b from to i : ℕ)
    → (i < from → b < lo) → (from ≤ i → i < to → (lo ≤ b) × (b ≤ hi)) → (to ≤ i → hi < b)
    → (bit_at (2 ^ to - 2 ^ from) i == 1) ≡ within lo hi b
run_test lo hi b from to i below inside above = ⊎_elim
    (λ lt. ap (λ x. x == 1) (bit_at_mask_below from to i lt) ∙ sym (not_from lo hi b (below lt)))
    (λ le. ⊎_elim
    (λ lt. ap (λ x. x == 1) (bit_at_mask_inside from to i le lt) ∙ (let h = inside le lt in sym (is_within lo hi b h.0 h.1)))
    (λ ge. ap (λ x. x == 1) (bit_at_mask_above from to i ge) ∙ sym (not_to lo hi b (above ge)))
    (cases_lt i to))
    (cases_lt i from)

-- a range as two runs of ones
pub range_is : (lo hi high low low_from low_to high_from high_to : ℕ) → hi < 256
    → low_from ≡ min lo 128 → low_to ≡ min (hi + 1) 128 → high_from ≡ max lo 128 → high_to ≡ max (hi + 1) 128
    → high ≡ 2 ^ (high_to - 128) - 2 ^ (high_from - 128) → low ≡ 2 ^ low_to - 2 ^ low_from
    → high < 2 ^ 128 → low < 2 ^ 128 → joined high low ≡ range_set lo hi
unfolding range_set
range_is lo hi high low low_from low_to high_from high_to top lf lt hf ht high_is low_is high_fits low_fits =
    joined_is high low (within lo hi) high_fits low_fits
    (λ b byte. ap (λ w. bit_at w b == 1) low_is ∙ run_test lo hi b low_from low_to b
    (λ h. omega (arith, lf, byte, h))
    (λ h k. (omega (arith, lf, byte, h), omega (arith, lt, byte, k)))
    (λ h. omega (arith, lt, byte, h)))
    (λ b byte le. ap (λ w. bit_at w (b - 128) == 1) high_is ∙ run_test lo hi b (high_from - 128) (high_to - 128) (b - 128)
    (λ h. omega (arith, hf, le, h))
    (λ h k. (omega (arith, hf, le, h), omega (arith, ht, le, k)))
    (λ h. omega (arith, ht, le, h)))

-- a word and the same one bit up

bit_kept : (n i : ℕ) → i < 128 → bit_at (n % 2 ^ 128) i ≡ bit_at n i
bit_kept n i h = let e : n / 2 ^ 128 * 2 ^ 128 + n % 2 ^ 128 ≡ n = omega arith in
    sym (bit_at_cat_low (n / 2 ^ 128) 128 (n % 2 ^ 128) i h) ∙ ap (λ x. bit_at x i) e

pub bit_up : (n i : ℕ) → i + 1 < 128 → bit_at (n * 2 ^ 1 % 2 ^ 128) (i + 1) ≡ bit_at n i
bit_up n i h =
    let e : i + 1 ≡ suc i = omega arith in
    let half : n * 2 ^ 1 / 2 ≡ n = omega arith in
    bit_kept (n * 2 ^ 1) (i + 1) h ∙ ap (bit_at (n * 2 ^ 1)) e ∙ bit_at-suc (n * 2 ^ 1) i ∙ ap (λ x. bit_at x i) half

pub bit_up_first : (n : ℕ) → bit_at (n * 2 ^ 1 % 2 ^ 128) 0 ≡ 0
bit_up_first n = bit_at_lowest (n * 2 ^ 1 % 2 ^ 128) ∙ omega arith

-- just one of two bits

xor_test : (x y : ℕ) → x < 2 → y < 2 → ((x + y) % 2 == 1) ≡ xor (y == 1) (x == 1)
unfolding xor
xor_test zero zero h k = refl
xor_test zero (suc zero) h k = refl
xor_test (suc zero) zero h k = refl
xor_test (suc zero) (suc zero) h k = refl
xor_test (suc (suc x)) y h k = absurd (omega arith)
xor_test zero (suc (suc y)) h k = absurd (omega arith)
xor_test (suc zero) (suc (suc y)) h k = absurd (omega arith)

xor_bits : (a b i : ℕ) → (bit_at (bit_xor a b) i == 1) ≡ xor (bit_at b i == 1) (bit_at a i == 1)
xor_bits a b i = ap (λ x. x == 1) (bit_at_xor a b i) ∙ xor_test (bit_at a i) (bit_at b i) (bit_at-lt a i) (bit_at-lt b i)

-- the lowest bit that is set

pub none_below : (n i : ℕ) → n < 2 ^ 128 → i < trailing_zeros w128 n → bit_at n i ≡ 0
none_below zero i fits low = bit_at-zero i
none_below (suc n) i fits low = (bit_at-trailing_zeros w128 (suc n) (omega arith) fits).2 i low

pub some_there : (n : ℕ) → n < 2 ^ 128 → trailing_zeros w128 n < 128 → bit_at n (trailing_zeros w128 n) ≡ 1
some_there zero fits low = let e = trailing_of_zero 128 in absurd (omega (arith, e, low))
some_there (suc n) fits low = (bit_at-trailing_zeros w128 (suc n) (omega arith) fits).1

-- a bit that is set stands in the word
pub none_past : (n i : ℕ) → n < 2 ^ 128 → bit_at n i ≡ 1 → i < 128
none_past n i fits one = ⊎_elim (λ low. low) (λ high. let none = bit_at_above n 128 i fits high in absurd (omega (arith, none, one))) (cases_lt i 128)

-- a byte is in a half where its bit is set

pub low_out : (high low b : ℕ) → b < 128 → bit_at low b ≡ 0 → has (joined high low) b ≡ false
low_out high low b h e = has-joined_low high low b h ∙ ap (λ x. x == 1) e

pub low_in : (high low b : ℕ) → b < 128 → bit_at low b ≡ 1 → has (joined high low) b ≡ true
low_in high low b h e = has-joined_low high low b h ∙ ap (λ x. x == 1) e

pub high_out : (high low b : ℕ) → low < 2 ^ 128 → 128 ≤ b → bit_at high (b - 128) ≡ 0 → has (joined high low) b ≡ false
high_out high low b fits h e = has-joined_high high low b fits h ∙ ap (λ x. x == 1) e

pub high_in : (high low b : ℕ) → low < 2 ^ 128 → 128 ≤ b → bit_at high (b - 128) ≡ 1 → has (joined high low) b ≡ true
high_in high low b fits h e = has-joined_high high low b fits h ∙ ap (λ x. x == 1) e

-- the bytes at which a set begins or ends, as two words

xor_false : (x : Bool) → xor false x ≡ x
unfolding xor
xor_false false = refl
xor_false true = refl

first_bits : (x y : ℕ) → y ≡ 0 → xor (y == 1) (x == 1) ≡ (x == 1)
first_bits x y e = ap (λ y. xor (y == 1) (x == 1)) e ∙ xor_false (x == 1)

up_by_one : (l b : ℕ) → 1 ≤ b → b < 128 → bit_at (l * 2 ^ 1 % 2 ^ 128) b ≡ bit_at l (b - 1)
up_by_one l b some fits = let e : b ≡ b - 1 + 1 = omega (arith, some) in ap (bit_at (l * 2 ^ 1 % 2 ^ 128)) e ∙ bit_up l (b - 1) (omega (arith, some, fits))

-- the high word one bit up, with the low one's last bit below it
carried_on : (h l b : ℕ) → l < 2 ^ 128 → 1 ≤ b → b < 128 → bit_at (bit_or (h * 2 ^ 1 % 2 ^ 128) (l / 2 ^ 127)) b ≡ bit_at h (b - 1)
carried_on h l b fits some low =
    let none : bit_at (l / 2 ^ 127) b ≡ 0 = bit_at_above (l / 2 ^ 127) 1 b (omega (arith, fits)) some in
    let up = up_by_one h b some low in
    omega (arith, bit_at_or (h * 2 ^ 1 % 2 ^ 128) (l / 2 ^ 127) b, none, up)

carried_in : (h l : ℕ) → bit_at (bit_or (h * 2 ^ 1 % 2 ^ 128) (l / 2 ^ 127)) 0 ≡ bit_at l 127
carried_in h l =
    let none = bit_up_first h in
    let last : bit_at (l / 2 ^ 127) 0 ≡ bit_at l 127 = bit_at_lowest (l / 2 ^ 127) in
    omega (arith, bit_at_or (h * 2 ^ 1 % 2 ^ 128) (l / 2 ^ 127) 0, none, last)

alike : (x x' y y' : Bool) → x ≡ x' → y ≡ y' → xor x y ≡ xor x' y'
alike x x' y y' e f = rw (e, f) refl

pub changes_first : (high h l : ℕ) → has (joined high (bit_xor l (l * 2 ^ 1 % 2 ^ 128))) 0 ≡ has (joined h l) 0
changes_first high h l = has-joined_low high (bit_xor l (l * 2 ^ 1 % 2 ^ 128)) 0 (omega arith)
    ∙ xor_bits l (l * 2 ^ 1 % 2 ^ 128) 0
    ∙ first_bits (bit_at l 0) (bit_at (l * 2 ^ 1 % 2 ^ 128) 0) (bit_up_first l)
    ∙ sym (has-joined_low h l 0 (omega arith))

changes_low : (high h l b : ℕ) → 1 ≤ b → b < 128
    → has (joined high (bit_xor l (l * 2 ^ 1 % 2 ^ 128))) b ≡ xor (has (joined h l) (b - 1)) (has (joined h l) b)
changes_low high h l b some fits = has-joined_low high (bit_xor l (l * 2 ^ 1 % 2 ^ 128)) b fits
    ∙ xor_bits l (l * 2 ^ 1 % 2 ^ 128) b
    ∙ alike _ _ _ _
    (ap (λ x. x == 1) (up_by_one l b some fits) ∙ sym (has-joined_low h l (b - 1) (omega (arith, fits))))
    (sym (has-joined_low h l b fits))

before_high : (h l b : ℕ) → l < 2 ^ 128 → 128 ≤ b → b < 256
    → (bit_at (bit_or (h * 2 ^ 1 % 2 ^ 128) (l / 2 ^ 127)) (b - 128) == 1) ≡ has (joined h l) (b - 1)
before_high h l b fits large byte = ⊎_elim
    (λ first. let e : b - 128 ≡ 0 = omega (arith, first) in let f : 127 ≡ b - 1 = omega (arith, first, large) in
    ap (λ i. bit_at (bit_or (h * 2 ^ 1 % 2 ^ 128) (l / 2 ^ 127)) i == 1) e
    ∙ ap (λ x. x == 1) (carried_in h l)
    ∙ sym (has-joined_low h l 127 (omega arith))
    ∙ ap (has (joined h l)) f)
    (λ later. let e : b - 128 - 1 ≡ b - 1 - 128 = omega (arith, later) in
    ap (λ x. x == 1) (carried_on h l (b - 128) fits (omega (arith, later)) (omega (arith, byte)))
    ∙ ap (λ i. bit_at h i == 1) e
    ∙ sym (has-joined_high h l (b - 1) fits (omega (arith, later))))
    (cases_lt b 129)

pub changes_later : (h l b : ℕ) → l < 2 ^ 128 → 1 ≤ b → b < 256
    → has (joined (bit_xor h (bit_or (h * 2 ^ 1 % 2 ^ 128) (l / 2 ^ 127))) (bit_xor l (l * 2 ^ 1 % 2 ^ 128))) b
    ≡ xor (has (joined h l) (b - 1)) (has (joined h l) b)
changes_later h l b fits some byte = ⊎_elim
    (λ low. changes_low _ h l b some low)
    (λ large. has-joined_high (bit_xor h (bit_or (h * 2 ^ 1 % 2 ^ 128) (l / 2 ^ 127))) (bit_xor l (l * 2 ^ 1 % 2 ^ 128)) b
    (xor_lt 128 l (l * 2 ^ 1 % 2 ^ 128) fits (omega arith)) large
    ∙ xor_bits h (bit_or (h * 2 ^ 1 % 2 ^ 128) (l / 2 ^ 127)) (b - 128)
    ∙ alike _ _ _ _ (before_high h l b fits large byte) (sym (has-joined_high h l b fits large)))
    (cases_lt b 128)
