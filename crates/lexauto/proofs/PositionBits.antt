-- Bits of ascending positions say which they are.
use Rattle.std.specs.Prelude.{◌≡◌, ◌≢◌, ◌↔◌, ℕ, zero, suc, ◌+◌, ◌-◌, ◌*◌, ◌/◌, ◌%◌, ◌^◌, ◌<◌, ◌≤◌, ◌⊎◌, Bool, true, false, List, [], ◌∷◌, cond, length, min, nat_lt, bit_or, slice_index, slice_set, take, drop}
use Rattle.std.proofs.Common.{rules, inl, inr, refl, ap, sym, ◌∙◌, arith, replicate}
use Rattle.std.specs.Int.{bit_at as bit_of}
use Rattle.std.specs.List.{filter}
use Rattle.std.specs.Cmp.Lexicographic.{bytes_decides}
use Rattle.std.proofs.lemmas.Bool.{cases_eq, eqb-true, eq-eqb}
use Rattle.std.proofs.lemmas.List.{get_or-set_same, get_or-set_other, get_or-take, length-set, take-replicate}
use Rattle.std.proofs.Math.Seq.{take-set-lt, drop-cons}
use Rattle.std.proofs.lemmas.Nat.Bits.{bit_at_or, bit_at-pow_same, bit_at-pow_other}
use Rattle.lex_semantics.specs.Text.{Among, Ascending, listed}
use Rattle.lexauto_positions.specs.Cursors.{Increases}
use Rattle.lexauto_positions.proofs.CursorLaws.{increases}
use Rattle.lexauto_positions.proofs.Numbers.{same_list, listed_is, listed_ascends, filter_is, filter_ascends}
use Rattle.lexauto.specs.Sets.{tagged, lasts_in}
use Rattle.lexauto.specs.KeyPacking.{bit_at, bit_count, with_bit, with_bits, unpacked, packed, bits_of, word_count}
use Rattle.lexauto.proofs.Kept.{kept_as_bits, kept_as_it_is}

-- one more bit of a word
module _ (w k i : ℕ) where
  bit_here : i ≡ k → bit_of (bit_or w (2 ^ k)) i ≡ 1
  bit_here e = ap (bit_of (bit_or w (2 ^ k))) e ∙ (let o = bit_at_or w (2 ^ k) k in let s = bit_at-pow_same k in omega (arith, o, s))

  bit_elsewhere : i ≢ k → bit_of (bit_or w (2 ^ k)) i ≡ bit_of w i
  bit_elsewhere n = (let o = bit_at_or w (2 ^ k) i in let s = bit_at-pow_other k i n in omega (arith, o, s))

is_set : (ws : List ℕ) (x : ℕ) → (bit_at ws x ≡ true) ↔ (bit_of (slice_index ws (x / 32)) (x % 32) ≡ 1)
is_set ws x = (λ h. eqb-true (bit_of (slice_index ws (x / 32)) (x % 32)) 1 h, λ h. eq-eqb (bit_of (slice_index ws (x / 32)) (x % 32)) 1 h)

-- the bit of one position more
module _ (ws : List ℕ) (p x : ℕ) (low : p / 32 < length ws) where
  word_here : x / 32 ≡ p / 32 → slice_index (with_bit ws p) (x / 32) ≡ bit_or (slice_index ws (p / 32)) (2 ^ (p % 32))
  word_here e = ap (slice_index (with_bit ws p)) e ∙ get_or-set_same ws (p / 32) (bit_or (slice_index ws (p / 32)) (2 ^ (p % 32))) 0 low

  word_elsewhere : x / 32 ≢ p / 32 → slice_index (with_bit ws p) (x / 32) ≡ slice_index ws (x / 32)
  word_elsewhere n = get_or-set_other ws (p / 32) (x / 32) (bit_or (slice_index ws (p / 32)) (2 ^ (p % 32))) 0 n

  same_place : x / 32 ≡ p / 32 → x % 32 ≡ p % 32 → x ≡ p
  same_place e f = omega arith

  now_set : x ≡ p → bit_at (with_bit ws p) x ≡ true
  now_set e = (is_set (with_bit ws p) x).1 (ap (λ w. bit_of w (x % 32)) (word_here (ap (λ q. q / 32) e)) ∙ bit_here (slice_index ws (p / 32)) (p % 32) (x % 32) (ap (λ q. q % 32) e))

  as_before : x ≢ p → bit_of (slice_index (with_bit ws p) (x / 32)) (x % 32) ≡ bit_of (slice_index ws (x / 32)) (x % 32)
  as_before n = elim (cases_eq (x / 32) (p / 32)) [
    | inl e ↦ elim (cases_eq (x % 32) (p % 32)) [
      | inl f ↦ absurd (n (same_place e f))
      | inr f ↦ ap (λ w. bit_of w (x % 32)) (word_here e) ∙ bit_elsewhere (slice_index ws (p / 32)) (p % 32) (x % 32) f ∙ ap (λ q. bit_of (slice_index ws q) (x % 32)) (sym e)
    ]
    | inr e ↦ ap (λ w. bit_of w (x % 32)) (word_elsewhere e)
  ]

  one_more : (bit_at (with_bit ws p) x ≡ true) ↔ ((bit_at ws x ≡ true) ⊎ (x ≡ p))
  one_more = (
    λ h. elim (cases_eq x p) [ inl e ↦ inr e | inr n ↦ inl ((is_set ws x).1 (sym (as_before n) ∙ (is_set (with_bit ws p) x).0 h)) ],
    λ h. elim (cases_eq x p) [ inl e ↦ now_set e | inr n ↦ elim h [ inl b ↦ (is_set (with_bit ws p) x).1 (as_before n ∙ (is_set ws x).0 b) | inr e ↦ absurd (n e) ] ],
  )

pub length_with_bits : (ws l : List ℕ) → length (with_bits ws l) ≡ length ws
length_with_bits ws [] = refl
length_with_bits ws (p ∷ l) = length_with_bits (with_bit ws p) l ∙ length-set ws (p / 32) (bit_or (slice_index ws (p / 32)) (2 ^ (p % 32)))

all_set : (ws l : List ℕ) → ((y : ℕ) → Among l y → y / 32 < length ws) → (x : ℕ) → (bit_at (with_bits ws l) x ≡ true) ↔ ((bit_at ws x ≡ true) ⊎ Among l x)
all_set ws [] low x = (λ h. inl h, λ h. elim h [ inl b ↦ b | inr a ↦ absurd a ])
all_set ws (p ∷ l) low x =
    let size : length (with_bit ws p) ≡ length ws = length-set ws (p / 32) (bit_or (slice_index ws (p / 32)) (2 ^ (p % 32))) in
    let more = all_set (with_bit ws p) l (λ y a. let h = low y (inr a) in omega (arith, h, size)) x in
    let one = one_more ws p x (low p (inl refl)) in (
      λ h. elim (more.0 h) [ inl b ↦ elim (one.0 b) [ inl c ↦ inl c | inr e ↦ inr (inl e) ] | inr a ↦ inr (inr a) ],
      λ h. elim h [ inl b ↦ more.1 (inl (one.1 (inl b))) | inr a ↦ elim a [ inl e ↦ more.1 (inl (one.1 (inr e))) | inr g ↦ more.1 (inr g) ] ],
    )

zero_at : (n i : ℕ) → slice_index (replicate n 0) i ≡ 0
zero_at zero i = refl
zero_at (suc n) zero = refl
zero_at (suc n) (suc i) = zero_at n i

pub length_zeros : (n : ℕ) → length {A = ℕ} (replicate n 0) ≡ n
length_zeros zero = refl
length_zeros (suc n) = ap suc (length_zeros n)

none_set : (n x : ℕ) → bit_at (replicate n 0) x ≡ true → ⊥
none_set n x h = (
    let z : 0 / 2 ^ (x % 32) ≡ 0 = grind arith in
    let one : slice_index (replicate n 0) (x / 32) / 2 ^ (x % 32) % 2 ≡ 1 = (is_set (replicate n 0) x).0 h in
    let none : 0 / 2 ^ (x % 32) % 2 ≡ 1 = ap (λ w. w / 2 ^ (x % 32) % 2) (sym (zero_at n (x / 32))) ∙ one in
    omega (arith, ap (λ q. q % 2) z, none))

module _ (n : ℕ) (l : List ℕ) (order : Ascending l) (low : (y : ℕ) → Among l y → y / 32 < n) (few : n ≤ 512) where
  abbrev words : List ℕ
  words = with_bits (replicate n 0) l

  size : length words ≡ n
  size = length_with_bits (replicate n 0) l ∙ length_zeros n

  set_is : (x : ℕ) → (bit_at words x ≡ true) ↔ Among l x
  set_is x = (
    λ h. elim ((all_set (replicate n 0) l (λ y a. let g = low y a in omega (arith, g, length_zeros n)) x).0 h) [ inl b ↦ absurd (none_set n x b) | inr a ↦ a ],
    λ a. (all_set (replicate n 0) l (λ y a. let g = low y a in omega (arith, g, length_zeros n)) x).1 (inr a),
  )

  -- their bits say them
  pub listed_bits : listed (bit_at (with_bits (replicate n 0) l)) 0 (bit_count (with_bits (replicate n 0) l)) ≡ l
  listed_bits =
      let all : min (length words) 512 * 32 ≡ n * 32 = (let m : min (length words) 512 ≡ n = omega (arith, size, few) in omega (arith, m)) in
      same_list (listed (bit_at words) 0 (min (length words) 512 * 32)) l (listed_ascends (bit_at words) 0 (min (length words) 512 * 32)) order (λ x. (
        λ a. (set_is x).0 ((listed_is (bit_at words) (min (length words) 512 * 32) x).0 a).1,
        λ a. (listed_is (bit_at words) (min (length words) 512 * 32) x).1 (let g = low x a in omega (arith, g, all), (set_is x).1 a),
      ))

-- the words after the last of the positions are left out
take_bit : (m : ℕ) (ws : List ℕ) (p : ℕ) → p / 32 < m → take m (with_bit ws p) ≡ with_bit (take m ws) p
take_bit m ws p h =
    take-set-lt m ws (p / 32) (bit_or (slice_index ws (p / 32)) (2 ^ (p % 32))) h
    ∙ ap (λ w. slice_set (take m ws) (p / 32) (bit_or w (2 ^ (p % 32)))) (sym (get_or-take m ws (p / 32) 0 h))

take_bits : (m : ℕ) (ws l : List ℕ) → ((y : ℕ) → Among l y → y / 32 < m) → take m (with_bits ws l) ≡ with_bits (take m ws) l
take_bits m ws [] h = refl
take_bits m ws (p ∷ l) h = take_bits m (with_bit ws p) l (λ y a. h y (inr a)) ∙ ap (λ vs. with_bits vs l) (take_bit m ws p (h p (inl refl)))

pub first_words : (m n : ℕ) (l : List ℕ) → m ≤ n → ((y : ℕ) → Among l y → y / 32 < m) → take m (with_bits (replicate n 0) l) ≡ with_bits (replicate m 0) l
first_words m n l h low = take_bits m (replicate n 0) l low ∙ ap (λ vs. with_bits vs l) (take-replicate m n 0 h)

-- none of ascending positions is more than the last one
pub last_is_most : (k : ℕ) (l : List ℕ) → Ascending l → (y : ℕ) → Among l y → y ≤ slice_index (k ∷ l) (length l)
last_is_most k [] order y a = absurd a
last_is_most k (x ∷ []) order y (inl e) = omega (arith, e)
last_is_most k (x ∷ []) order y (inr a) = absurd a
last_is_most k (x ∷ z ∷ l) order y (inl e) =
    let next : x < z = order.0 z (inl refl) in
    let most : z ≤ slice_index (x ∷ z ∷ l) (suc (length l)) = last_is_most x (z ∷ l) order.1 z (inl refl) in
    omega (arith, e, next, most)
last_is_most k (x ∷ z ∷ l) order y (inr a) = last_is_most x (z ∷ l) order.1 y a

-- how many words the last one needs
abbrev pub words_of : List ℕ → ℕ
words_of l = slice_index (1 ∷ l) (length l) / 32 + 1

pub within_words : (l : List ℕ) → Ascending l → (y : ℕ) → Among l y → y / 32 < words_of l
within_words l order y a = let m = last_is_most 1 l order y a in omega (arith, m)

count_is : (l : List ℕ) → word_count (1 ∷ l) ≡ words_of l
count_is l = ap (λ j. slice_index (1 ∷ l) j / 32 + 1) (let e : suc (length l) - 1 ≡ length l = omega arith in e)

-- a key of ascending positions is kept as bits where these are fewer
pub packed_bits : (l : List ℕ) → Ascending l → words_of l ≤ 512 → words_of l ≤ length l → 0 ∷ with_bits (replicate (words_of l) 0) l ≡ packed (1 ∷ l)
packed_bits l order few fewer =
    let same : bits_of (1 ∷ l) ≡ 0 ∷ with_bits (replicate (words_of l) 0) l = ap (λ n. 0 ∷ with_bits (replicate n 0) l) (count_is l) in
    let says : unpacked (bits_of (1 ∷ l)) ≡ 1 ∷ l = ap unpacked same ∙ ap (λ (ps : List ℕ). 1 ∷ ps) (listed_bits (words_of l) l order (within_words l order) few) in
    let less : word_count (1 ∷ l) < suc (length l) = omega (arith, fewer, count_is l) in
    sym same ∙ kept_as_bits (1 ∷ l) (is_less (word_count (1 ∷ l)) (suc (length l)) less) ((bytes_decides (unpacked (bits_of (1 ∷ l))) (1 ∷ l)).1 says)
  where
    is_less : (a b : ℕ) → a < b → nat_lt a b ≡ true
    is_less a b h = search rules

pub packed_plain : (l : List ℕ) → length l < words_of l → 1 ∷ 1 ∷ l ≡ packed (1 ∷ l)
packed_plain l h =
    let more : suc (length l) ≤ word_count (1 ∷ l) = omega (arith, h, count_is l) in
    kept_as_it_is (1 ∷ l) (not_less (word_count (1 ∷ l)) (suc (length l)) more)
  where
    not_less : (a b : ℕ) → b ≤ a → nat_lt a b ≡ false
    not_less a b h = search rules

-- the next of the numbers that pass a test
next_of : (f : ℕ → Bool) (l : List ℕ) (i : ℕ) → i < length l
    → filter f (drop i l) ≡ cond (f (slice_index l i)) (slice_index l i ∷ filter f (drop (i + 1) l)) (filter f (drop (i + 1) l))
next_of f l i h = ap (filter f) (drop-cons l i 0 h ∙ ap (λ n. slice_index l i ∷ drop n l) (let e : suc i ≡ i + 1 = omega arith in e))

pub next_passes : (f : ℕ → Bool) (l : List ℕ) (i : ℕ) → i < length l → f (slice_index l i) ≡ true
    → filter f (drop i l) ≡ slice_index l i ∷ filter f (drop (i + 1) l)
next_passes f l i h t = next_of f l i h ∙ ap (λ b. cond b (slice_index l i ∷ filter f (drop (i + 1) l)) (filter f (drop (i + 1) l))) t

pub next_fails : (f : ℕ → Bool) (l : List ℕ) (i : ℕ) → i < length l → f (slice_index l i) ≡ false → filter f (drop i l) ≡ filter f (drop (i + 1) l)
next_fails f l i h t = next_of f l i h ∙ ap (λ b. cond b (slice_index l i ∷ filter f (drop (i + 1) l)) (filter f (drop (i + 1) l))) t

pub none_passes : (f : ℕ → Bool) (l : List ℕ) (i : ℕ) → length l ≤ i → filter f (drop i l) ≡ []
none_passes f [] zero h = refl
none_passes f [] (suc i) h = refl
none_passes f (x ∷ l) zero h = absurd (omega (arith, h))
none_passes f (x ∷ l) (suc i) h = none_passes f l i (omega (arith, h))

last_among : (x : ℕ) (l : List ℕ) → Among (x ∷ l) (slice_index (x ∷ l) (length l))
last_among x [] = inl refl
last_among x (z ∷ l) = inr (last_among z l)

-- the words of ascending numbers do for each of them
pub within_count : (ps : List ℕ) → Ascending ps → (y : ℕ) → Among ps y → y / 32 < word_count ps
within_count [] order y a = absurd a
within_count (x ∷ ps) order y a =
    let most : y ≤ slice_index (x ∷ ps) (length ps) = last_is_most 0 (x ∷ ps) order y a in
    let last : slice_index (x ∷ ps) (suc (length ps) - 1) ≡ slice_index (x ∷ ps) (length ps) = ap (slice_index (x ∷ ps)) (let e : suc (length ps) - 1 ≡ length ps = omega arith in e) in
    omega (arith, most, last)

some_tagged : (l : List ℕ) → 0 < length l → tagged 1 l ≡ 1 ∷ l
some_tagged [] h = absurd (omega (arith, h))
some_tagged (x ∷ l) h = refl

last_word : (l : List ℕ) (n : ℕ) → 0 < length l → ((y : ℕ) → Among l y → y / 32 < n) → words_of l ≤ n
last_word [] n h low = absurd (omega (arith, h))
last_word (x ∷ l) n h low = let g = low (slice_index (x ∷ l) (length l)) (last_among x l) in omega (arith, g)

-- how a key of those ascending numbers that pass a test is kept
module _ (f : ℕ → Bool) (ps : List ℕ) (order : Ascending ps) where
  some_order : Ascending (filter f ps)
  some_order = filter_ascends f ps order

  some_within : (y : ℕ) → Among (filter f ps) y → y / 32 < word_count ps
  some_within y a = within_count ps order y ((filter_is f ps y).0 a).0

  pub none_kept : length (filter f ps) ≡ 0 → 1 ∷ [] ≡ packed (tagged 1 (filter f ps))
  none_kept h = from (filter f ps) h
    where
      from : (l : List ℕ) → length l ≡ 0 → 1 ∷ [] ≡ packed (tagged 1 l)
      from [] e = kept_as_it_is [] refl
      from (x ∷ l) e = absurd (omega (arith, e))

  pub used_within : 0 < length (filter f ps) → words_of (filter f ps) ≤ word_count ps
  used_within h = last_word (filter f ps) (word_count ps) h some_within

  pub bits_kept : 0 < length (filter f ps) → word_count ps ≤ 512 → words_of (filter f ps) ≤ length (filter f ps)
      → 0 ∷ take (words_of (filter f ps)) (with_bits (replicate (word_count ps) 0) (filter f ps)) ≡ packed (tagged 1 (filter f ps))
  bits_kept h few fewer =
      let used : words_of (filter f ps) ≤ word_count ps = used_within h in
      ap (λ (ws : List ℕ). 0 ∷ ws) (first_words (words_of (filter f ps)) (word_count ps) (filter f ps) used (within_words (filter f ps) some_order))
      ∙ packed_bits (filter f ps) some_order (omega (arith, used, few)) fewer ∙ ap packed (sym (some_tagged (filter f ps) h))

  pub plain_kept : (ws : List ℕ) → ws ≡ with_bits (replicate (word_count ps) 0) (filter f ps) → 0 < length (filter f ps) → word_count ps ≤ 512 → length (filter f ps) < words_of (filter f ps)
      → 1 ∷ 1 ∷ listed (bit_at ws) 0 (bit_count ws) ≡ packed (tagged 1 (filter f ps))
  plain_kept ws is h few more =
      ap (λ (vs : List ℕ). 1 ∷ 1 ∷ listed (bit_at vs) 0 (bit_count vs)) is
      ∙ ap (λ (l : List ℕ). 1 ∷ 1 ∷ l) (listed_bits (word_count ps) (filter f ps) some_order some_within few)
      ∙ packed_plain (filter f ps) more ∙ ap packed (sym (some_tagged (filter f ps) h))

-- positions that are kept as bits ascend
pub bits_increase : (kept : List ℕ) → 0 < length kept → slice_index kept 0 ≡ 0 → Increases (lasts_in (unpacked kept))
bits_increase [] h e = absurd (omega (arith, h))
bits_increase (zero ∷ ws) h e = increases (listed (bit_at ws) 0 (bit_count ws)) (listed_ascends (bit_at ws) 0 (bit_count ws))
bits_increase (suc n ∷ ws) h e = absurd (omega (arith, e))
