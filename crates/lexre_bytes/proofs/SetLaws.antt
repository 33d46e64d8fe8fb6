-- Facts on sets of bytes.
use Rattle.std.proofs.Common.{subst, eq-eqb, add-one, ◌||◌, max, bit_and, bit_or, add_comm, ⊎_elim, ◌≡◌, ℕ, zero, suc, ◌+◌, ◌-◌, ◌*◌, ◌/◌, ◌%◌, ◌^◌, ◌<◌, ◌≤◌, Bool, true, false, not, ◌==◌, ◌≢◌, refl, sym, ap, ◌∙◌, arith}
use Rattle.std.proofs.Math.Nat.{two-pow-succ, one-mul, mod-eq_of_lt}
use Rattle.std.proofs.Math.Pow.{pow-lt}
use Rattle.std.specs.Prelude.{if◌then◌else◌, [], ◌∷◌, ◌++◌}
use Rattle.std.specs.List.{sum_by, range_with_len}
use Rattle.std.proofs.lemmas.List.Sums.{sum_by-append}
use Rattle.std.specs.Int.{bit_at, w128}
use Rattle.lexre_bytes.specs.Halves.{joined}
use Rattle.std.proofs.lemmas.Bool.{cases_lt}
use Rattle.std.proofs.lemmas.Bool.Decides.{eqb_tells}
use Rattle.std.proofs.lemmas.Nat.{or_lt}
use lib.Bits.{or_disjoint}
use Rattle.std.proofs.lemmas.Nat.Bits.{bit_at-lt, same_from_bits_below, bit_at_above, bit_at-pow_same, bit_at-pow_other, bit_at_cat_low, bit_at_cat_high, bit_at-zero, bit_at_lowest, bit_at_or, bit_at_not, shr_and_one, and_pow}
use Rattle.lex_semantics.specs.ByteSets.{single, bit_of, has, set_below, set_of, empty_set, union, complement}
use Rattle.lex_semantics.specs.Shapes.{IsSoundTree}
use Rattle.lex_semantics.specs.Tree.{Set}

pub bit_of-lt : (b : Bool) → bit_of b < 2
bit_of-lt true = omega arith
bit_of-lt false = omega arith

bit_of-digit : (b : Bool) → bit_of b % 2 ≡ bit_of b
bit_of-digit true = refl
bit_of-digit false = refl

-- a bit above n others
bit_fits : (n bit rest : ℕ) → bit < 2 → rest < 2 ^ n → bit * 2 ^ n + rest < 2 ^ suc n
bit_fits n zero rest h k = omega (arith, two-pow-succ n)
bit_fits n (suc zero) rest h k = omega (arith, two-pow-succ n)
bit_fits n (suc (suc bit)) rest h k = absurd (omega arith)

pub set_below-lt : (n : ℕ) (p : ℕ → Bool) → set_below n p < 2 ^ n
unfolding set_below
set_below-lt zero p = omega arith
set_below-lt (suc n) p = bit_fits n (bit_of (p n)) (set_below n p) (bit_of-lt (p n)) (set_below-lt n p)

top_bit : (n bit rest b : ℕ) → bit % 2 ≡ bit → rest < 2 ^ n → b ≡ n → bit_at (bit * 2 ^ n + rest) b ≡ bit
top_bit n bit rest b h k e =
    let zero_left : b - n ≡ 0 = omega arith in
    bit_at_cat_high bit n rest b k (omega arith) ∙ ap (bit_at bit) zero_left ∙ bit_at_lowest bit ∙ h

pub bit_at-set_below : (n : ℕ) (p : ℕ → Bool) (b : ℕ) → b < n → bit_at (set_below n p) b ≡ bit_of (p b)
unfolding set_below
bit_at-set_below zero p b h = absurd (omega arith)
bit_at-set_below (suc n) p b h =
    ⊎_elim (λ below. bit_at_cat_low (bit_of (p n)) n (set_below n p) b below ∙ bit_at-set_below n p b below)
    (λ here. let e : b ≡ n = omega arith in top_bit n (bit_of (p n)) (set_below n p) b (bit_of-digit (p n)) (set_below-lt n p) e ∙ ap (λ i. bit_of (p i)) (sym e))
    (cases_lt b n)

pub same_below : (n : ℕ) (p q : ℕ → Bool) → ((b : ℕ) → b < n → p b ≡ q b) → set_below n p ≡ set_below n q
unfolding set_below
same_below zero p q h = refl
same_below (suc n) p q h =
    let here : p n ≡ q n = h n (omega arith) in
    let rest : set_below n p ≡ set_below n q = same_below n p q (λ b k. h b (omega arith)) in
    cc

bit_of-test : (b : Bool) → (bit_of b == 1) ≡ b
bit_of-test true = refl
bit_of-test false = refl

-- a set is a sum of powers of 2
bit_power : (b : Bool) (x : ℕ) → (if b then x else 0) ≡ (if b then 1 else 0) * x
bit_power true x = omega arith
bit_power false x = omega arith

range_snoc : (a n : ℕ) → range_with_len a (suc n) ≡ range_with_len a n ++ (a + n) ∷ []
range_snoc a zero = ap (λ k. k ∷ []) (let e : a ≡ a + 0 = omega arith in e)
range_snoc a (suc n) =
    let e : a + 1 + n ≡ a + suc n = omega arith in
    ap (λ ks. a ∷ ks) (range_snoc (a + 1) n ∙ ap (λ k. range_with_len (a + 1) n ++ k ∷ []) e)

sum_below : (n : ℕ) (p : ℕ → Bool) → sum_by (λ b. if p b then 2 ^ b else 0) (range_with_len 0 n) ≡ set_below n p
unfolding set_below
sum_below zero p = refl
sum_below (suc n) p =
    let f : ℕ → ℕ = λ b. if p b then 2 ^ b else 0 in
    let rest : sum_by f (range_with_len 0 n) ≡ set_below n p = sum_below n p in
    let here : f n ≡ bit_of (p n) * 2 ^ n = bit_power (p n) (2 ^ n) in
    let e : 0 + n ≡ n = omega arith in
    ap (sum_by f) (range_snoc 0 n ∙ ap (λ k. range_with_len 0 n ++ k ∷ []) e) ∙ sum_by-append f (range_with_len 0 n) (n ∷ []) ∙ omega (arith, rest, here)

set_of-below : (p : ℕ → Bool) → set_of p ≡ set_below 256 p
unfolding set_of
set_of-below p = sum_below 256 p

-- a set has the bytes that pass its test
pub has-set_of : (p : ℕ → Bool) (b : ℕ) → b < 256 → has (set_of p) b ≡ p b
unfolding has
has-set_of p b h = ap (λ s. bit_at s b == 1) (set_of-below p) ∙ ap (λ x. x == 1) (bit_at-set_below 256 p b h) ∙ bit_of-test (p b)

pub set_of-lt : (p : ℕ → Bool) → set_of p < 2 ^ 256
set_of-lt p = subst (λ s. s < 2 ^ 256) (sym (set_of-below p)) (set_below-lt 256 p)

-- equal tests make equal sets
pub same_set_of : (p q : ℕ → Bool) → ((b : ℕ) → b < 256 → p b ≡ q b) → set_of p ≡ set_of q
same_set_of p q h = set_of-below p ∙ same_below 256 p q h ∙ sym (set_of-below q)

bits_by_test : (x y : ℕ) → x < 2 → y < 2 → (x == 1) ≡ (y == 1) → x ≡ y
bits_by_test zero zero h k e = refl
bits_by_test (suc zero) (suc zero) h k e = refl
bits_by_test zero (suc zero) h k e = cc
bits_by_test (suc zero) zero h k e = cc
bits_by_test (suc (suc x)) y h k e = absurd (omega arith)
bits_by_test zero (suc (suc y)) h k e = absurd (omega arith)
bits_by_test (suc zero) (suc (suc y)) h k e = absurd (omega arith)

-- sets with the same members are the same number
pub same_set : (s t : ℕ) → s < 2 ^ 256 → t < 2 ^ 256 → ((b : ℕ) → b < 256 → has s b ≡ has t b) → s ≡ t
unfolding has
same_set s t h k e = same_from_bits_below 256 s t h k (λ b below. bits_by_test (bit_at s b) (bit_at t b) (bit_at-lt s b) (bit_at-lt t b) (e b below))

-- what has the members that pass the test is the set
pub is_set_of : (s : ℕ) (p : ℕ → Bool) → s < 2 ^ 256 → ((b : ℕ) → b < 256 → has s b ≡ p b) → s ≡ set_of p
is_set_of s p h e = same_set s (set_of p) h (set_of-lt p) (λ b k. e b k ∙ sym (has-set_of p b k))

-- a set as two words

pub joined-lt : (high low : ℕ) → high < 2 ^ 128 → low < 2 ^ 128 → joined high low < 2 ^ 256
joined-lt high low h k = omega arith

pub has-joined_low : (high low b : ℕ) → b < 128 → has (joined high low) b ≡ (bit_at low b == 1)
unfolding has
has-joined_low high low b h = ap (λ x. x == 1) (bit_at_cat_low high 128 low b h)

pub has-joined_high : (high low b : ℕ) → low < 2 ^ 128 → 128 ≤ b → has (joined high low) b ≡ (bit_at high (b - 128) == 1)
unfolding has
has-joined_high high low b h k = ap (λ x. x == 1) (bit_at_cat_high high 128 low b h k)

-- two words are the set of what passes, if each is so of its half
pub joined_is : (high low : ℕ) (p : ℕ → Bool) → high < 2 ^ 128 → low < 2 ^ 128
    → ((b : ℕ) → b < 128 → (bit_at low b == 1) ≡ p b)
    → ((b : ℕ) → b < 256 → 128 ≤ b → (bit_at high (b - 128) == 1) ≡ p b)
    → joined high low ≡ set_of p
joined_is high low p h k below above = is_set_of (joined high low) p (joined-lt high low h k) (λ b fits.
    ⊎_elim (λ lt. has-joined_low high low b lt ∙ below b lt)
    (λ le. has-joined_high high low b k le ∙ above b fits le) (cases_lt b 128))

max_bits : (x y : ℕ) → x < 2 → y < 2 → (max x y == 1) ≡ ((x == 1) || (y == 1))
max_bits zero zero h k = refl
max_bits zero (suc zero) h k = refl
max_bits (suc zero) zero h k = refl
max_bits (suc zero) (suc zero) h k = refl
max_bits (suc (suc x)) y h k = absurd (omega arith)
max_bits zero (suc (suc y)) h k = absurd (omega arith)
max_bits (suc zero) (suc (suc y)) h k = absurd (omega arith)

pub or_bits : (a b i : ℕ) → (bit_at (bit_or a b) i == 1) ≡ ((bit_at a i == 1) || (bit_at b i == 1))
or_bits a b i = ap (λ x. x == 1) (bit_at_or a b i) ∙ max_bits (bit_at a i) (bit_at b i) (bit_at-lt a i) (bit_at-lt b i)

one_less : (x : ℕ) → x < 2 → (1 - x == 1) ≡ not (x == 1)
one_less zero h = refl
one_less (suc zero) h = refl
one_less (suc (suc x)) h = absurd (omega arith)

pub not_bits : (n i : ℕ) → n < 2 ^ 128 → i < 128 → (bit_at (2 ^ 128 - 1 - n) i == 1) ≡ not (bit_at n i == 1)
not_bits n i h k = ap (λ x. x == 1) (bit_at_not w128 n i h k) ∙ one_less (bit_at n i) (bit_at-lt n i)

-- a test of a bit
pub shifted_test : (n i : ℕ) → (bit_and (n / 2 ^ i) 1 == 1) ≡ (bit_at n i == 1)
shifted_test n i = ap (λ x. x == 1) (shr_and_one n i)

-- one more member at the top
pub or_top : (n k : ℕ) → n < 2 ^ k → bit_or n (2 ^ k) ≡ 2 ^ k + n
or_top n k h = or_disjoint n (2 ^ k) (and_pow n k ∙ rw (bit_at_above n k k h (omega arith)) (omega arith)) ∙ add_comm n (2 ^ k)

pub empty_is : 0 ≡ empty_set
unfolding empty_set
empty_is = joined_is 0 0 (λ b. false) (omega arith) (omega arith)
    (λ b h. ap (λ x. x == 1) (bit_at-zero b)) (λ b h k. ap (λ x. x == 1) (bit_at-zero (b - 128)))

pub union_is : (h l h' l' : ℕ) → h < 2 ^ 128 → l < 2 ^ 128 → h' < 2 ^ 128 → l' < 2 ^ 128
    → joined (bit_or h h') (bit_or l l') ≡ union (joined h l) (joined h' l')
unfolding union
union_is h l h' l' p q p' q' = joined_is (bit_or h h') (bit_or l l') (λ b. has (joined h l) b || has (joined h' l') b)
    (or_lt 128 h h' p p') (or_lt 128 l l' q q')
    (λ b k. or_bits l l' b ∙ sym (rw (has-joined_low h l b k, has-joined_low h' l' b k) refl))
    (λ b k m. or_bits h h' (b - 128) ∙ sym (rw (has-joined_high h l b q m, has-joined_high h' l' b q' m) refl))

pub complement_is : (h l : ℕ) → h < 2 ^ 128 → l < 2 ^ 128
    → joined (2 ^ 128 - 1 - h) (2 ^ 128 - 1 - l) ≡ complement (joined h l)
unfolding complement
complement_is h l p q = joined_is (2 ^ 128 - 1 - h) (2 ^ 128 - 1 - l) (λ b. not (has (joined h l) b))
    (omega arith) (omega arith)
    (λ b k. not_bits l b q k ∙ ap not (sym (has-joined_low h l b k)))
    (λ b k m. not_bits h (b - 128) p (omega arith) ∙ ap not (sym (has-joined_high h l b q m)))

pub contains_low : (h l b : ℕ) → b < 128 → (bit_and (l / 2 ^ b) 1 == 1) ≡ has (joined h l) b
contains_low h l b k = shifted_test l b ∙ sym (has-joined_low h l b k)

pub contains_high : (h l b : ℕ) → l < 2 ^ 128 → 128 ≤ b → (bit_and (h / 2 ^ (b - 128)) 1 == 1) ≡ has (joined h l) b
contains_high h l b q k = shifted_test h (b - 128) ∙ sym (has-joined_high h l b q k)

-- one more byte to a half that was gone over up to n
pub one_more_in : (n : ℕ) (p : ℕ → Bool) → p n ≡ true → bit_or (set_below n p) (2 ^ n) ≡ set_below (suc n) p
unfolding set_below
one_more_in n p h = or_top (set_below n p) n (set_below-lt n p) ∙ rw h (omega arith)

pub one_more_out : (n : ℕ) (p : ℕ → Bool) → p n ≡ false → set_below n p ≡ set_below (suc n) p
unfolding set_below
one_more_out n p h = rw h (omega arith)

-- what passes, as two words
pub halves_are : (p : ℕ → Bool) → joined (set_below 128 (λ b. p (b + 128))) (set_below 128 p) ≡ set_of p
halves_are p = joined_is _ _ p (set_below-lt 128 (λ b. p (b + 128))) (set_below-lt 128 p)
    (λ b h. ap (λ x. x == 1) (bit_at-set_below 128 p b h) ∙ bit_of-test (p b))
    (λ b h k. let back : b - 128 + 128 ≡ b = omega arith in
    ap (λ x. x == 1) (bit_at-set_below 128 (λ i. p (i + 128)) (b - 128) (omega arith)) ∙ bit_of-test (p (b - 128 + 128)) ∙ ap p back)

pub none_below : (p : ℕ → Bool) → 0 ≡ set_below 0 p
unfolding set_below
none_below p = refl

-- a half after one more byte, which passed or did not
pub after_in : (n : ℕ) (p : ℕ → Bool) (half new bit : ℕ) → half ≡ set_below n p → true ≡ p n → bit ≡ 2 ^ n → new ≡ bit_or half bit → new ≡ set_below (n + 1) p
after_in n p half new bit e h b f = f ∙ rw (e, b, add-one) (one_more_in n p (sym h))

pub after_out : (n : ℕ) (p : ℕ → Bool) (half new : ℕ) → half ≡ set_below n p → false ≡ p n → new ≡ half → new ≡ set_below (n + 1) p
after_out n p half new e h f = f ∙ rw (e, add-one) (one_more_out n p (sym h))

-- the shift `1 << n` of a word
pub one_shifted : (n : ℕ) → n < 128 → 1 * 2 ^ n % 2 ^ 128 ≡ 2 ^ n
one_shifted n h = ap (λ x. x % 2 ^ 128) (one-mul (2 ^ n)) ∙ mod-eq_of_lt (pow-lt h)

not_equal : (b n : ℕ) → b ≢ n → (b == n) ≡ false
not_equal b n h = ⊎_elim (λ is. absurd (h is.1)) (λ is. is.0) (eqb_tells b n)

-- a word with one bit
pow_bit : (n b : ℕ) → (bit_at (2 ^ n) b == 1) ≡ (b == n)
pow_bit n b = ⊎_elim
    (λ is. rw (is.1, bit_at-pow_same n) (sym (eq-eqb n n refl)))
    (λ is. rw (bit_at-pow_other n b is.1) (sym is.0))
    (eqb_tells b n)

no_bit : (b : ℕ) → (bit_at 0 b == 1) ≡ false
no_bit b = ap (λ x. x == 1) (bit_at-zero b)

same_shift : (b n : ℕ) → 128 ≤ b → 128 ≤ n → (b - 128 == n - 128) ≡ (b == n)
same_shift b n h k = ⊎_elim
    (λ is. rw is.1 (eq-eqb (n - 128) (n - 128) refl ∙ sym (eq-eqb n n refl)))
    (λ is. not_equal (b - 128) (n - 128) (λ e. is.1 (omega (arith, e, h, k))) ∙ sym is.0)
    (eqb_tells b n)

-- the set of one byte, as two words

pub single_low : (n : ℕ) → n < 128 → joined 0 (2 ^ n) ≡ single n
unfolding single
single_low n h = joined_is 0 (2 ^ n) (λ b. b == n) (omega arith) (pow-lt h)
    (λ b k. pow_bit n b)
    (λ b k m. no_bit (b - 128) ∙ sym (not_equal b n (λ e. omega (arith, e, h, m))))

pub single_high : (n : ℕ) → 128 ≤ n → n < 256 → joined (2 ^ (n - 128)) 0 ≡ single n
unfolding single
single_high n h k = joined_is (2 ^ (n - 128)) 0 (λ b. b == n) (pow-lt {j = 128} (omega (arith, h, k))) (omega arith)
    (λ b m. no_bit b ∙ sym (not_equal b n (λ e. omega (arith, e, h, m))))
    (λ b m l. pow_bit (n - 128) (b - 128) ∙ same_shift b n l h)

-- one byte is a sound tree
pub sound_single : (s b : ℕ) → b < 256 → s ≡ single b → IsSoundTree (Set s)
unfolding single
sound_single s b h e = rw e (b, (h, has-set_of (λ c. c == b) b h ∙ eq-eqb b b refl))
