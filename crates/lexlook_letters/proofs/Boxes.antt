-- The words of the sequence of a piece.
use Rattle.std.proofs.Common.{◌≡◌, ◌↔◌, ℕ, ◌+◌, ◌-◌, ◌*◌, ◌/◌, ◌%◌, ◌<◌, ◌≤◌, List, [], ◌∷◌, ◌++◌, refl, sym, ap, ◌∙◌, subst, arith}
use Rattle.std.proofs.lemmas.Bool.{lt-ltb, le-ltb}
use Rattle.lexlook_letters.specs.Cutting.{IsEncodingWithin, IsWhole}
use Rattle.lexlook_letters.specs.Encoding.{encoding, going_on}
use Rattle.lexlook_letters.specs.Sequences.{HasByteOfEach, IsSoundRange, bytes_between}
use Rattle.lexlook_letters.specs.declared.sequence.ByteRange.{ByteRange}
use Rattle.lexlook_letters.proofs.Wholes.{parted, put_together, low_order}

-- Ranges with one more behind.

last_off : (rs : List ByteRange) (r : ByteRange) (w : List ℕ) → HasByteOfEach (rs ++ r ∷ []) w
    → (u : List ℕ) × (b : ℕ) × HasByteOfEach rs u × (w ≡ u ++ b ∷ []) × (r.first ≤ b) × (b ≤ r.last)
last_off [] r w (b, v, e, l, m, done) = ([], b, refl, e ∙ ap (λ t. b ∷ t) done, l, m)
last_off (s ∷ rs) r w (b, v, e, l, m, rest) =
    let (u, x, front, f, n, o) = last_off rs r v rest in
    (b ∷ u, x, (b, u, refl, l, m, front), e ∙ ap (λ t. b ∷ t) f, n, o)

last_on : (rs : List ByteRange) (r : ByteRange) (u : List ℕ) (b : ℕ) → HasByteOfEach rs u → r.first ≤ b → b ≤ r.last
    → HasByteOfEach (rs ++ r ∷ []) (u ++ b ∷ [])
last_on [] r u b e l m = (b, [], ap (λ t. t ++ b ∷ []) e, l, m, refl)
last_on (s ∷ rs) r u b (x, v, e, n, o, rest) l m = (x, v ++ b ∷ [], ap (λ t. t ++ b ∷ []) e, n, o, last_on rs r v b rest l m)

-- what is made of a number from the first to the last
abbrev MadeOf : (ℕ → List ℕ) → ℕ → ℕ → List ℕ → Type 0
MadeOf made first last w = (c : ℕ) × (first ≤ c) × (c ≤ last) × (w ≡ made c)

-- these ranges have just the words that are made so
abbrev Spans : List ByteRange → ℕ → ℕ → (ℕ → List ℕ) → Type 0
Spans rs first last made = (w : List ℕ) → HasByteOfEach rs w ↔ MadeOf made first last w

-- one byte, above a mark
lead_of : (mark first last : ℕ) (w : List ℕ) → HasByteOfEach (bytes_between (mark + first) (mark + last) ∷ []) w → MadeOf (λ c. (mark + c) ∷ []) first last w
lead_of mark first last w (b, v, e, l, m, done) =
    let back : b ≡ mark + (b - mark) = omega arith in
    (b - mark, omega arith, omega arith, e ∙ ap (λ t. b ∷ t) done ∙ ap (λ x. x ∷ []) back)

of_lead : (mark first last : ℕ) (w : List ℕ) → MadeOf (λ c. (mark + c) ∷ []) first last w → HasByteOfEach (bytes_between (mark + first) (mark + last) ∷ []) w
of_lead mark first last w (c, l, m, e) = (mark + c, [], e, omega arith, omega arith, refl)

lead : (mark first last : ℕ) → Spans (bytes_between (mark + first) (mark + last) ∷ []) first last (λ c. (mark + c) ∷ [])
lead mark first last w = (lead_of mark first last w, of_lead mark first last w)

-- one byte, as it is
alone : (first last : ℕ) → Spans (bytes_between first last ∷ []) first last (λ c. c ∷ [])
alone first last w = (to, from)
  where
    to : HasByteOfEach (bytes_between first last ∷ []) w → MadeOf (λ c. c ∷ []) first last w
    to (b, v, e, l, m, done) = (b, l, m, e ∙ ap (λ t. b ∷ t) done)

    from : MadeOf (λ c. c ∷ []) first last w → HasByteOfEach (bytes_between first last ∷ []) w
    from (c, l, m, e) = (c, [], e, l, m, refl)

-- One byte more goes on with the lowest six bits.

abbrev longer : List ByteRange → ℕ → ℕ → List ByteRange
longer rs first last = rs ++ bytes_between (going_on first) (going_on last) ∷ []

abbrev made_longer : (ℕ → List ℕ) → ℕ → List ℕ
made_longer made c = made (c / 64) ++ going_on c ∷ []

abbrev made_above : ℕ → ℕ → List ℕ
made_above mark c = (mark + c) ∷ []

module _ (rs : List ByteRange) (first last : ℕ) (made : ℕ → List ℕ) (whole : IsWhole first last) (above : Spans rs (first / 64) (last / 64) made) where
  low_byte : (b : ℕ) → going_on first ≤ b → b ≤ going_on last → (first % 64 ≤ b - 0x80) × (b - 0x80 ≤ last % 64) × (0x80 + (b - 0x80) ≡ b)
  low_byte b l m = (omega arith, omega arith, omega arith)

  gone_on : (w : List ℕ) → HasByteOfEach (longer rs first last) w → MadeOf (made_longer made) first last w
  gone_on w h =
      let (u, b, front, e, l, m) = last_off rs (bytes_between (going_on first) (going_on last)) w h in
      let (q, n, o, f) = (above u).0 front in
      let (lo, hi, back) = low_byte b l m in
      let (from, to, top, low) = put_together first last q (b - 0x80) whole n o lo hi in
      let upper : u ≡ made ((q * 64 + (b - 0x80)) / 64) = f ∙ ap made (sym top) in
      let lower : b ≡ going_on (q * 64 + (b - 0x80)) = sym back ∙ ap (λ x. 0x80 + x) (sym low) in
      (q * 64 + (b - 0x80), from, to, e ∙ ap (λ x. x ++ b ∷ []) upper ∙ ap (λ x. made ((q * 64 + (b - 0x80)) / 64) ++ x ∷ []) lower)

  goes_on : (w : List ℕ) → MadeOf (made_longer made) first last w → HasByteOfEach (longer rs first last) w
  goes_on w (c, l, m, e) =
      let (n, o, lo, hi) = parted first last c whole l m in
      let front : HasByteOfEach rs (made (c / 64)) = (above (made (c / 64))).1 (c / 64, n, o, refl) in
      let P : List ℕ → Type 0 = λ x. HasByteOfEach (longer rs first last) x in
      subst P (sym e) (last_on rs (bytes_between (going_on first) (going_on last)) (made (c / 64)) (going_on c) front (omega arith) (omega arith))

  going : Spans (longer rs first last) first last (made_longer made)
  going w = (gone_on w, goes_on w)

-- Where each number is encoded as it is made, the words are encodings.
encoded : (rs : List ByteRange) (first last : ℕ) (made : ℕ → List ℕ) → Spans rs first last made → ((c : ℕ) → first ≤ c → c ≤ last → encoding c ≡ made c)
    → (w : List ℕ) → HasByteOfEach rs w ↔ IsEncodingWithin first last w
encoded rs first last made spans same w = (to, from)
  where
    to : HasByteOfEach rs w → IsEncodingWithin first last w
    to h = let (c, l, m, e) = (spans w).0 h in (c, l, m, e ∙ sym (same c l m))

    from : IsEncodingWithin first last w → HasByteOfEach rs w
    from (c, l, m, e) = (spans w).1 (c, l, m, e ∙ same c l m)

-- the encodings of each length
one_byte : (c : ℕ) → c < 0x80 → encoding c ≡ c ∷ []
one_byte c h = rw (lt-ltb c 0x80 h) refl

two_bytes : (c : ℕ) → 0x80 ≤ c → c < 0x800 → encoding c ≡ (0xC0 + c / 64) ∷ going_on c ∷ []
two_bytes c h k = rw (le-ltb c 0x80 h, lt-ltb c 0x800 k) refl

three_bytes : (c : ℕ) → 0x800 ≤ c → c < 0x10000 → encoding c ≡ (0xE0 + c / 64 / 64) ∷ going_on (c / 64) ∷ going_on c ∷ []
three_bytes c h k = let l : 0x80 ≤ c = omega arith in rw (le-ltb c 0x80 l, le-ltb c 0x800 h, lt-ltb c 0x10000 k) refl

four_bytes : (c : ℕ) → 0x10000 ≤ c → encoding c ≡ (0xF0 + c / 64 / 64 / 64) ∷ going_on (c / 64 / 64) ∷ going_on (c / 64) ∷ going_on c ∷ []
four_bytes c h =
    let l : 0x80 ≤ c = omega arith in
    let m : 0x800 ≤ c = omega arith in
    rw (le-ltb c 0x80 l, le-ltb c 0x800 m, le-ltb c 0x10000 h) refl

-- The words of each kind of sequence, and that no range of it is empty.

pub one_words : (first last : ℕ) (a : ByteRange) → last < 0x80 → a ≡ bytes_between first last
    → (w : List ℕ) → HasByteOfEach (a ∷ []) w ↔ IsEncodingWithin first last w
one_words first last a h e w =
    rw e (encoded (bytes_between first last ∷ []) first last (λ c. c ∷ []) (alone first last) (λ c l m. one_byte c (omega arith)) w)

abbrev lead_range : ℕ → ℕ → ℕ → List ByteRange
lead_range mark first last = bytes_between (mark + first) (mark + last) ∷ []

pub two_words : (first last : ℕ) (a b : ByteRange) → 0x80 ≤ first → last < 0x800 → IsWhole first last
    → a ≡ bytes_between (0xC0 + first / 64) (0xC0 + last / 64) → b ≡ bytes_between (going_on first) (going_on last)
    → (w : List ℕ) → HasByteOfEach (a ∷ b ∷ []) w ↔ IsEncodingWithin first last w
two_words first last a b h k whole e f w =
    let rs = lead_range 0xC0 (first / 64) (last / 64) in
    let span : Spans (longer rs first last) first last (made_longer (made_above 0xC0)) =
    going rs first last (made_above 0xC0) whole (lead 0xC0 (first / 64) (last / 64)) in
    rw (e, f) (encoded (longer rs first last) first last (made_longer (made_above 0xC0)) span (λ c l m. two_bytes c (omega arith) (omega arith)) w)

pub three_words : (first last : ℕ) (a b c : ByteRange) → 0x800 ≤ first → last < 0x10000 → IsWhole first last → IsWhole (first / 64) (last / 64)
    → a ≡ bytes_between (0xE0 + first / 64 / 64) (0xE0 + last / 64 / 64) → b ≡ bytes_between (going_on (first / 64)) (going_on (last / 64))
    → c ≡ bytes_between (going_on first) (going_on last)
    → (w : List ℕ) → HasByteOfEach (a ∷ b ∷ c ∷ []) w ↔ IsEncodingWithin first last w
three_words first last a b c h k whole above e f g w =
    let rs = lead_range 0xE0 (first / 64 / 64) (last / 64 / 64) in
    let made : ℕ → List ℕ = made_longer (made_above 0xE0) in
    let front : Spans (longer rs (first / 64) (last / 64)) (first / 64) (last / 64) made =
    going rs (first / 64) (last / 64) (made_above 0xE0) above (lead 0xE0 (first / 64 / 64) (last / 64 / 64)) in
    let span : Spans (longer (longer rs (first / 64) (last / 64)) first last) first last (made_longer made) =
    going (longer rs (first / 64) (last / 64)) first last made whole front in
    rw (e, f, g) (encoded (longer (longer rs (first / 64) (last / 64)) first last) first last (made_longer made) span
    (λ x l m. three_bytes x (omega arith) (omega arith)) w)

pub four_words : (first last : ℕ) (a b c d : ByteRange) → 0x10000 ≤ first
    → IsWhole first last → IsWhole (first / 64) (last / 64) → IsWhole (first / 64 / 64) (last / 64 / 64)
    → a ≡ bytes_between (0xF0 + first / 64 / 64 / 64) (0xF0 + last / 64 / 64 / 64) → b ≡ bytes_between (going_on (first / 64 / 64)) (going_on (last / 64 / 64))
    → c ≡ bytes_between (going_on (first / 64)) (going_on (last / 64)) → d ≡ bytes_between (going_on first) (going_on last)
    → (w : List ℕ) → HasByteOfEach (a ∷ b ∷ c ∷ d ∷ []) w ↔ IsEncodingWithin first last w
four_words first last a b c d h whole above over e f g i w =
    let rs = longer (lead_range 0xF0 (first / 64 / 64 / 64) (last / 64 / 64 / 64)) (first / 64 / 64) (last / 64 / 64) in
    let made : ℕ → List ℕ = made_longer (made_above 0xF0) in
    let front : Spans rs (first / 64 / 64) (last / 64 / 64) made =
    going (lead_range 0xF0 (first / 64 / 64 / 64) (last / 64 / 64 / 64)) (first / 64 / 64) (last / 64 / 64) (made_above 0xF0) over
    (lead 0xF0 (first / 64 / 64 / 64) (last / 64 / 64 / 64)) in
    let next : Spans (longer rs (first / 64) (last / 64)) (first / 64) (last / 64) (made_longer made) =
    going rs (first / 64) (last / 64) made above front in
    let span : Spans (longer (longer rs (first / 64) (last / 64)) first last) first last (made_longer (made_longer made)) =
    going (longer rs (first / 64) (last / 64)) first last (made_longer made) whole next in
    rw (e, f, g, i) (encoded (longer (longer rs (first / 64) (last / 64)) first last) first last (made_longer (made_longer made)) span
    (λ x l m. four_bytes x (omega arith)) w)

-- the ranges have bytes

pub low_sound : (first last : ℕ) (r : ByteRange) → first ≤ last → IsWhole first last → r ≡ bytes_between (going_on first) (going_on last) → IsSoundRange r
low_sound first last r h whole e = let k = low_order first last h whole in rw e (omega (arith, k), omega arith)

pub lead_sound : (first last : ℕ) (r : ByteRange) → first ≤ last → last < 0x100 → r ≡ bytes_between first last → IsSoundRange r
lead_sound first last r h k e = rw e (h, k)
