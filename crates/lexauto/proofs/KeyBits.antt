-- The positions of words of bits.
use Rattle.std.specs.Prelude.{◌≡◌, ℕ, zero, suc, ◌+◌, ◌-◌, ◌*◌, ◌/◌, ◌%◌, ◌^◌, ◌==◌, ◌<◌, ◌≤◌, Bool, true, false, cond, List, [], ◌∷◌, ◌++◌, slice_index}
use Rattle.std.proofs.Common.{refl, ap, sym, ◌∙◌, arith}
use Rattle.std.proofs.lemmas.Bool.{eq-eqb, ne_eqb}
use Rattle.lex_semantics.specs.Text.{listed}
use Rattle.lexauto.specs.KeyPacking.{bit_at, word_bits}

pub bits_are : word_bits ≡ 32
unfolding word_bits
bits_are = refl

after_cond : (b : Bool) (xs ys zs : List ℕ) → cond b (xs ++ zs) (ys ++ zs) ≡ cond b xs ys ++ zs
after_cond true xs ys zs = refl
after_cond false xs ys zs = refl

-- those of m numbers, and then those of n more
pub listed_more : (test : ℕ → Bool) (i m n : ℕ) → listed test i m ++ listed test (i + m) n ≡ listed test i (m + n)
listed_more test i zero n = ap (λ j. listed test j n) (let e : i + 0 ≡ i = omega arith in e) ∙ ap (listed test i) (let e : n ≡ 0 + n = omega arith in e)
listed_more test i (suc m) n =
    let next : listed test (suc i) m ++ listed test (i + suc m) n ≡ listed test (suc i) (m + n) =
    ap (λ j. listed test (suc i) m ++ listed test j n) (let e : i + suc m ≡ suc i + m = omega arith in e) ∙ listed_more test (suc i) m n in
    let more : suc (m + n) ≡ suc m + n = omega arith in
    let whole : listed test i (suc (m + n)) ≡ listed test i (suc m + n) = ap (listed test i) more in
    sym (after_cond (test i) (i ∷ listed test (suc i) m) (listed test (suc i) m) (listed test (i + suc m) n))
    ∙ ap (λ zs. cond (test i) (i ∷ zs) zs) next ∙ whole

pub listed_none : (test : ℕ → Bool) (i n : ℕ) → ((p : ℕ) → i ≤ p → p < i + n → test p ≡ false) → listed test i n ≡ []
listed_none test i zero h = refl
listed_none test i (suc n) h =
    ap (λ b. cond b (i ∷ listed test (suc i) n) (listed test (suc i) n)) (h i (omega arith) (omega arith))
    ∙ listed_none test (suc i) n (λ p low high. h p (omega (arith, low)) (omega (arith, high)))

module _ (words : List ℕ) (at bit : ℕ) (low : bit < 32) where
  word_of : (at * 32 + bit) / 32 ≡ at
  word_of = omega arith

  place_of : (at * 32 + bit) % 32 ≡ bit
  place_of = omega arith

  bit_in : bit_at words (at * 32 + bit) ≡ (slice_index words at / 2 ^ bit % 2 == 1)
  bit_in = ap (λ w. slice_index words w / 2 ^ ((at * 32 + bit) % 32) % 2 == 1) word_of ∙ ap (λ k. slice_index words at / 2 ^ k % 2 == 1) place_of

  pub bit_is_set : slice_index words at / 2 ^ bit % 2 ≡ 1 → bit_at words (at * 32 + bit) ≡ true
  bit_is_set e = bit_in ∙ eq-eqb (slice_index words at / 2 ^ bit % 2) 1 e

  pub bit_is_clear : (slice_index words at / 2 ^ bit % 2 ≡ 1 → ⊥) → bit_at words (at * 32 + bit) ≡ false
  bit_is_clear e = bit_in ∙ ne_eqb (slice_index words at / 2 ^ bit % 2) 1 e

-- a word of 0 has no position
pub no_bits : (words : List ℕ) (at : ℕ) → slice_index words at ≡ 0 → listed (bit_at words) (at * 32) word_bits ≡ []
no_bits words at e = listed_none (bit_at words) (at * 32) word_bits (λ p low high.
    let few : p - at * 32 < 32 = omega (arith, low, high, bits_are) in
    let here : p ≡ at * 32 + (p - at * 32) = omega (arith, low) in
    ap (bit_at words) here ∙ bit_is_clear words at (p - at * 32) few (λ h. zero_bit (p - at * 32) (ap (λ w. w / 2 ^ (p - at * 32) % 2) (sym e) ∙ h)))
  where
    zero_bit : (k : ℕ) → 0 / 2 ^ k % 2 ≡ 1 → ⊥
    zero_bit k h = (let z : 0 / 2 ^ k ≡ 0 = grind arith in omega (arith, ap (λ x. x % 2) z, h))

-- one word, and then the rest of them
pub word_more : (test : ℕ → Bool) (at n : ℕ) → at < n → listed test (at * 32) word_bits ++ listed test ((at + 1) * 32) ((n - (at + 1)) * 32) ≡ listed test (at * 32) ((n - at) * 32)
word_more test at n h =
    let start : (at + 1) * 32 ≡ at * 32 + word_bits = omega (arith, bits_are) in
    let all : word_bits + (n - (at + 1)) * 32 ≡ (n - at) * 32 = omega (arith, bits_are, h) in
    ap (λ j. listed test (at * 32) word_bits ++ listed test j ((n - (at + 1)) * 32)) start
    ∙ listed_more test (at * 32) word_bits ((n - (at + 1)) * 32) ∙ ap (listed test (at * 32)) all

pub none_left : (test : ℕ → Bool) (i n : ℕ) → n ≡ 0 → listed test i n ≡ []
none_left test i n e = ap (listed test i) e
