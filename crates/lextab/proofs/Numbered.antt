-- Numbers in the order of their first uses, by places.
use Rattle.std.specs.Prelude.{◌≡◌, ◌≢◌, ℕ, zero, suc, ◌<◌, ◌≤◌, List, [], ◌∷◌, length, slice_index}
use Rattle.std.proofs.Common.{inl, inr, arith}
use Rattle.lexauto_dfa.specs.Numbering.{InOrder}
use Rattle.lextab.proofs.Orders.{same_or_not, less_or_not}

-- j stands at one of the first n places
abbrev pub StandsBefore : List ℕ → ℕ → ℕ → Type 0
StandsBefore xs n j = (c : ℕ) × (c < n) × (slice_index xs c ≡ j)

later : (x : ℕ) (xs : List ℕ) (n j : ℕ) → StandsBefore xs n j → StandsBefore (x ∷ xs) (suc n) j
later x xs n j (c, h, e) = (suc c, omega (arith, h), e)

in_rest : (x : ℕ) (xs : List ℕ) (n j : ℕ) → x ≢ j → StandsBefore (x ∷ xs) (suc n) j → StandsBefore xs n j
in_rest x xs n j ne (zero, h, e) = absurd (ne e)
in_rest x xs n j ne (suc c, h, e) = (c, omega (arith, h), e)

-- each number on the way to another stands before it
pub order_in : (n : ℕ) (xs : List ℕ) (m : ℕ) → InOrder n xs m → (b j : ℕ) → b < length xs → n < j → j < slice_index xs b → StandsBefore xs b j
order_in n [] m is b j h g less = absurd (omega (arith, h))
order_in n (x ∷ xs) m (inl (low, r)) zero j h g less = absurd (omega (arith, low, g, less))
order_in n (x ∷ xs) m (inl (low, r)) (suc b) j h g less = later x xs b j (order_in n xs m r b j (omega (arith, h)) g less)
order_in n (x ∷ xs) m (inr (e, r)) zero j h g less = absurd (omega (arith, e, g, less))
order_in n (x ∷ xs) m (inr (e, r)) (suc b) j h g less = elim (same_or_not x j) [
  | inl q ↦ (0, omega arith, q)
  | inr ne ↦ later x xs b j (order_in (suc n) xs m r b j (omega (arith, h)) (omega (arith, e, g, ne)) less)
]

pub least_in : (n : ℕ) (xs : List ℕ) (m : ℕ) → InOrder n xs m → n ≤ m
least_in n [] m is = let e : m ≡ n = is in omega (arith, e)
least_in n (x ∷ xs) m (inl (low, r)) = least_in n xs m r
least_in n (x ∷ xs) m (inr (e, r)) = let l = least_in (suc n) xs m r in omega (arith, l)

pub below_in : (n : ℕ) (xs : List ℕ) (m : ℕ) → InOrder n xs m → (b : ℕ) → b < length xs → slice_index xs b ≤ m
below_in n [] m is b h = absurd (omega (arith, h))
below_in n (x ∷ xs) m (inl (low, r)) zero h = let l = least_in n xs m r in omega (arith, l, low)
below_in n (x ∷ xs) m (inl (low, r)) (suc b) h = below_in n xs m r b (omega (arith, h))
below_in n (x ∷ xs) m (inr (e, r)) zero h = let l = least_in (suc n) xs m r in omega (arith, l, e)
below_in n (x ∷ xs) m (inr (e, r)) (suc b) h = below_in (suc n) xs m r b (omega (arith, h))

pub used_in : (n : ℕ) (xs : List ℕ) (m : ℕ) → InOrder n xs m → (j : ℕ) → n < j → j ≤ m → StandsBefore xs (length xs) j
used_in n [] m is j g h = absurd (let e : m ≡ n = is in omega (arith, e, g, h))
used_in n (x ∷ xs) m (inl (low, r)) j g h = later x xs (length xs) j (used_in n xs m r j g h)
used_in n (x ∷ xs) m (inr (e, r)) j g h = elim (same_or_not x j) [
  | inl q ↦ (0, omega arith, q)
  | inr ne ↦ later x xs (length xs) j (used_in (suc n) xs m r j (omega (arith, e, g, ne)) h)
]

pub numbered_from : (n : ℕ) (xs : List ℕ) (m : ℕ) → n ≤ m → ((b : ℕ) → b < length xs → slice_index xs b ≤ m)
    → ((b j : ℕ) → b < length xs → n < j → j < slice_index xs b → StandsBefore xs b j)
    → ((j : ℕ) → n < j → j ≤ m → StandsBefore xs (length xs) j) → InOrder n xs m
numbered_from n [] m le below order used = elim (less_or_not n m) [
  | inl lt ↦ absurd (let u = used m lt (omega arith) in let u1 = u.1 in omega (arith, u1))
  | inr ge ↦ omega (arith, le, ge)
]
numbered_from n (x ∷ xs) m le below order used = elim (less_or_not n x) [
  | inr low ↦ inl (
    low,
    numbered_from n xs m le (λ b h. below (suc b) (omega (arith, h)))
        (λ b j h g less. in_rest x xs b j (λ e. omega (arith, e, low, g)) (order (suc b) j (omega (arith, h)) g less))
        (λ j g h. in_rest x xs (length xs) j (λ e. omega (arith, e, low, g)) (used j g h)),
  )
  | inl high ↦ (let e : x ≡ suc n = next high in
      inr (
        e,
        numbered_from (suc n) xs m (let l = below 0 (omega arith) in omega (arith, l, e)) (λ b h. below (suc b) (omega (arith, h)))
            (λ b j h g less. in_rest x xs b j (λ q. omega (arith, q, e, g)) (order (suc b) j (omega (arith, h)) (omega (arith, g)) less))
            (λ j g h. in_rest x xs (length xs) j (λ q. omega (arith, q, e, g)) (used j (omega (arith, g)) h)),
      ))
]
  where
    next : n < x → x ≡ suc n
    next high = elim (less_or_not (suc n) x) [
      | inl lt ↦ absurd (let w = order 0 (suc n) (omega arith) (omega arith) lt in let w1 = w.1 in omega (arith, w1))
      | inr ge ↦ omega (arith, high, ge)
    ]
