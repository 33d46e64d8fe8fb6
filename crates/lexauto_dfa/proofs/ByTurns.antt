-- Two lists by turns.
use Rattle.std.proofs.Common.{◌≡◌, ℕ, zero, suc, ◌+◌, ◌*◌, ◌<◌, Bool, true, false, cond, List, [], ◌∷◌, length, refl, ap, ◌∙◌, arith}
use Rattle.std.specs.Prelude.{slice_index}
use Rattle.lexauto_dfa.specs.Least.{by_turns}

pub turns_length : (es os : List ℕ) → length os ≡ length es → length (by_turns es os) ≡ 2 * length es
turns_length [] os h = refl
turns_length (e ∷ es) [] h = absurd (omega (arith, h))
turns_length (e ∷ es) (o ∷ os) h = let r = turns_length es os (omega (arith, h)) in omega (arith, r)

pub turns_are : (xs es os : List ℕ) → length os ≡ length es → length xs ≡ 2 * length es
    → ((i : ℕ) → i < length es → slice_index xs (2 * i) ≡ slice_index es i) → ((i : ℕ) → i < length es → slice_index xs (2 * i + 1) ≡ slice_index os i) → xs ≡ by_turns es os
turns_are [] [] os h l f g = refl
turns_are (x ∷ xs) [] os h l f g = absurd (omega (arith, l))
turns_are [] (e ∷ es) os h l f g = absurd (omega (arith, l))
turns_are (x ∷ []) (e ∷ es) os h l f g = absurd (omega (arith, l))
turns_are (x ∷ y ∷ xs) (e ∷ es) [] h l f g = absurd (omega (arith, h))
turns_are (x ∷ y ∷ xs) (e ∷ es) (o ∷ os) h l f g =
    let first : x ≡ e = f 0 (omega arith) in
    let second : y ≡ o = g 0 (omega arith) in
    let rest = turns_are xs es os (omega (arith, h)) (omega (arith, l))
    (λ i k. ap (λ (j : ℕ). slice_index (x ∷ y ∷ xs) j) (let q : suc (suc (2 * i)) ≡ 2 * suc i = omega arith in q) ∙ f (suc i) (omega (arith, k)))
    (λ i k. ap (λ (j : ℕ). slice_index (x ∷ y ∷ xs) j) (let q : suc (suc (2 * i + 1)) ≡ 2 * suc i + 1 = omega arith in q) ∙ g (suc i) (omega (arith, k))) in
    ap (λ (a : ℕ). a ∷ y ∷ xs) first ∙ ap (λ (a : ℕ). e ∷ a ∷ xs) second ∙ ap (λ (zs : List ℕ). e ∷ o ∷ zs) rest

pub turns_below : (es os : List ℕ) (n : ℕ) → length os ≡ length es → ((c : ℕ) → c < length es → slice_index es c < n) → ((c : ℕ) → c < length os → slice_index os c < n)
    → (i : ℕ) → i < length (by_turns es os) → slice_index (by_turns es os) i < n
turns_below [] os n h f g i k = absurd (omega (arith, k))
turns_below (e ∷ es) [] n h f g i k = absurd (omega (arith, h))
turns_below (e ∷ es) (o ∷ os) n h f g zero k = f 0 (omega arith)
turns_below (e ∷ es) (o ∷ os) n h f g (suc zero) k = g 0 (omega arith)
turns_below (e ∷ es) (o ∷ os) n h f g (suc (suc i)) k = turns_below es os n (omega (arith, h)) (λ c q. f (suc c) (omega (arith, q))) (λ c q. g (suc c) (omega (arith, q))) i (omega (arith, k))

-- the starts of a condition
pub turn_even : (es os : List ℕ) (c : ℕ) → length os ≡ length es → slice_index (by_turns es os) (2 * c) ≡ slice_index es c
turn_even [] os c h = refl
turn_even (e ∷ es) [] c h = absurd (omega (arith, h))
turn_even (e ∷ es) (o ∷ os) zero h = refl
turn_even (e ∷ es) (o ∷ os) (suc c) h = ap (λ (j : ℕ). slice_index (e ∷ o ∷ by_turns es os) j) (let q : 2 * suc c ≡ suc (suc (2 * c)) = omega arith in q) ∙ turn_even es os c (omega (arith, h))

pub turn_odd : (es os : List ℕ) (c : ℕ) → length os ≡ length es → slice_index (by_turns es os) (2 * c + 1) ≡ slice_index os c
turn_odd [] [] c h = refl
turn_odd [] (o ∷ os) c h = absurd (omega (arith, h))
turn_odd (e ∷ es) [] c h = absurd (omega (arith, h))
turn_odd (e ∷ es) (o ∷ os) zero h = refl
turn_odd (e ∷ es) (o ∷ os) (suc c) h = ap (λ (j : ℕ). slice_index (e ∷ o ∷ by_turns es os) j) (let q : 2 * suc c + 1 ≡ suc (suc (2 * c + 1)) = omega arith in q) ∙ turn_odd es os c (omega (arith, h))

-- each place is that of a start
pub turn_at : (es os : List ℕ) (i : ℕ) → length os ≡ length es → i < length (by_turns es os)
    → (c : ℕ) × (line_start : Bool) × (c < length es) × (slice_index (by_turns es os) i ≡ cond line_start (slice_index os c) (slice_index es c))
turn_at [] os i h l = absurd (omega (arith, l))
turn_at (e ∷ es) [] i h l = absurd (omega (arith, h))
turn_at (e ∷ es) (o ∷ os) zero h l = (0, false, omega arith, refl)
turn_at (e ∷ es) (o ∷ os) (suc zero) h l = (0, true, omega arith, refl)
turn_at (e ∷ es) (o ∷ os) (suc (suc i)) h l =
    let (c, line_start, low, is) = turn_at es os i (omega (arith, h)) (omega (arith, l)) in
    (suc c, line_start, omega (arith, low), is)

-- lists of the same lengths that are the same by turns are the same
pub turns_same : (es os fs ps : List ℕ) → length os ≡ length es → length ps ≡ length fs → by_turns es os ≡ by_turns fs ps → (es ≡ fs) × (os ≡ ps)
turns_same [] [] [] [] h k e = (refl, refl)
turns_same [] [] [] (p ∷ ps) h k e = absurd (omega (arith, k))
turns_same [] (o ∷ os) fs ps h k e = absurd (omega (arith, h))
turns_same [] [] (f ∷ fs) [] h k e = absurd (omega (arith, k))
turns_same [] [] (f ∷ fs) (p ∷ ps) h k e = absurd cc
turns_same (a ∷ es) [] fs ps h k e = absurd (omega (arith, h))
turns_same (a ∷ es) (o ∷ os) [] ps h k e = absurd cc
turns_same (a ∷ es) (o ∷ os) (f ∷ fs) [] h k e = absurd (omega (arith, k))
turns_same (a ∷ es) (o ∷ os) (f ∷ fs) (p ∷ ps) h k e =
    let rest : by_turns es os ≡ by_turns fs ps = cc in
    let first : a ≡ f = cc in
    let second : o ≡ p = cc in
    let (left, right) = turns_same es os fs ps (omega (arith, h)) (omega (arith, k)) rest in
    (ap (λ (x : ℕ). x ∷ es) first ∙ ap (λ (xs : List ℕ). f ∷ xs) left, ap (λ (x : ℕ). x ∷ os) second ∙ ap (λ (xs : List ℕ). p ∷ xs) right)
