-- Lemmas on texts and their parts.
use Rattle.std.proofs.Common.{zero-add, ◌⊎◌, inl, inr, ◌≡◌, ℕ, zero, suc, ◌+◌, ◌-◌, ◌≤◌, ◌<◌, List, [], ◌∷◌, ◌++◌, length, take, drop, refl, sym, ◌∙◌, ap, arith}
use Rattle.std.proofs.lemmas.List.{take-append-drop, take-append-le, length-take-le, length-drop, take-take, drop-append-le}
use Rattle.std.specs.Bool.{nat_eq}
use Rattle.lex_semantics.specs.Text.{part, at_line_start, IsText, byte_at}

pub is_text_take : (n : ℕ) (x : List ℕ) → IsText x → IsText (take n x)
is_text_take zero x h = tt
is_text_take (suc n) [] h = tt
is_text_take (suc n) (b ∷ x) h = (h.0, is_text_take n x h.1)

pub is_text_drop : (n : ℕ) (x : List ℕ) → IsText x → IsText (drop n x)
is_text_drop zero x h = h
is_text_drop (suc n) [] h = tt
is_text_drop (suc n) (b ∷ x) h = is_text_drop n x h.1

pub is_text_right : (v w : List ℕ) → IsText (v ++ w) → IsText w
is_text_right [] w h = h
is_text_right (b ∷ v) w h = is_text_right v w h.1

pub is_text_left : (v w : List ℕ) → IsText (v ++ w) → IsText v
is_text_left [] w h = tt
is_text_left (b ∷ v) w h = (h.0, is_text_left v w h.1)

pub is_text_append : (v w : List ℕ) → IsText v → IsText w → IsText (v ++ w)
is_text_append [] w h k = k
is_text_append (b ∷ v) w h k = (h.0, is_text_append v w h.1 k)

pub take_past : (v w : List ℕ) (n : ℕ) → take (length v + n) (v ++ w) ≡ v ++ take n w
take_past [] w n = rw zero-add refl
take_past (b ∷ v) w n = let e : suc (length v) + n ≡ suc (length v + n) = omega arith in
    ap (λ i. take i (b ∷ (v ++ w))) e ∙ ap (λ r. b ∷ r) (take_past v w n)

-- a longer front is a front and more
pub take_longer : (i j : ℕ) (x : List ℕ) → i ≤ j → j ≤ length x → (u : List ℕ) × (take j x ≡ take i x ++ u) × (length u ≡ j - i) × (IsText x → IsText u)
take_longer i j x le fits =
    let e : take j x ≡ take i (take j x) ++ drop i (take j x) = sym (take-append-drop i (take j x)) in
    let same : take i (take j x) ≡ take i x = take-take i j x le in
    let n : length (take j x) ≡ j = length-take-le j x fits in
    (drop i (take j x), e ∙ ap (λ z. z ++ drop i (take j x)) same, length-drop i (take j x) ∙ ap (λ z. z - i) n, λ h. is_text_drop i (take j x) (is_text_take j x h))

byte_at_front : (g rest : List ℕ) (i : ℕ) → i < length g → byte_at (g ++ rest) i ≡ byte_at g i
byte_at_front [] rest i h = absurd (omega (arith, h))
byte_at_front (b ∷ g) rest zero h = refl
byte_at_front (b ∷ g) rest (suc i) h = byte_at_front g rest i (omega (arith, h))

pub line_start_front : (g rest : List ℕ) (p : ℕ) → p ≤ length g → at_line_start (g ++ rest) p ≡ at_line_start g p
line_start_front g rest zero h = refl
line_start_front g rest (suc p) h = ap (λ b. nat_eq b 10) (byte_at_front g rest p h)

pub part_front : (g rest : List ℕ) (i j : ℕ) → j ≤ length g → part (g ++ rest) i j ≡ part g i j
part_front g rest i j h = by_cases (grind arith)
  where
    inside : i ≤ length g → part (g ++ rest) i j ≡ part g i j
    inside le = let fits : j - i ≤ length (drop i g) = rw length-drop (omega arith) in ap (take (j - i)) (drop-append-le i g rest le) ∙ take-append-le (j - i) (drop i g) rest fits

    empty : (k : ℕ) → k ≡ 0 → take k (drop i (g ++ rest)) ≡ take k (drop i g)
    empty zero e = refl
    empty (suc k) e = absurd (omega (arith, e))

    by_cases : (i ≤ length g) ⊎ (length g < i) → part (g ++ rest) i j ≡ part g i j
    by_cases (inl le) = inside le
    by_cases (inr lt) = empty (j - i) (omega arith)
