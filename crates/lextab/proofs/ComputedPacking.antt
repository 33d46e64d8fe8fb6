-- The worked example of a packing, computed.
use Rattle.std.proofs.Common.{◌≡◌, ◌⊎◌, ℕ, zero, suc, ◌+◌, ◌<◌, ◌≤◌, Bool, true, false, List, inl, inr, refl, sym, ap, subst, ◌∙◌, arith}
use Rattle.std.specs.Prelude.{◌==◌, cond, slice_index}
use Rattle.std.proofs.lemmas.Bool.{eqb-true, cond-true, cond-false, cases_Bool}
use Rattle.lexauto_dfa.specs.Alike.{Alike}
use Rattle.lexauto_dfa.proofs.Below.{holds}
use Rattle.lextab.specs.Columns.{IsDefault, IsEntry, IsTaken, AreFree, IsBase, IsSize, AreSlots, by_class, often, packing_in}
use Rattle.lextab.proofs.Tabled.{packed_of}
use Rattle.lextab.specs.PackingExamples.{by_a, twice_a, TwiceA}

abbrev classes : List ℕ
classes = twice_a.class_of

abbrev defaults : List ℕ
defaults = (packing_in twice_a).defaults

abbrev bases : List ℕ
bases = (packing_in twice_a).bases

class_is : (b : ℕ) → b < 256 → slice_index classes b ≡ cond (b == 97) 1 0
class_is b lt = eqb-true _ _ (holds 256 (λ c. slice_index classes c == cond (c == 97) 1 0) refl b lt)

letter : (b : ℕ) → (b == 97) ≡ true → (s : ℕ) → by_a s b ≡ by_a s 97
letter b is s = ap (λ c. by_a s c) (eqb-true b 97 is)

other : (b : ℕ) → (b == 97) ≡ false → (s : ℕ) → by_a s b ≡ 0
other b not s = cond-false (b == 97) _ 0 not

one : (b : ℕ) → b < 256 → (b == 97) ≡ true → slice_index classes b ≡ 1
one b lt is = class_is b lt ∙ cond-true (b == 97) 1 0 is

none : (b : ℕ) → b < 256 → (b == 97) ≡ false → slice_index classes b ≡ 0
none b lt not = class_is b lt ∙ cond-false (b == 97) 1 0 not

alike : (b c : ℕ) → b < 256 → c < 256 → Alike 4 by_a b c → slice_index classes b ≡ slice_index classes c
alike b c lb lc same = elim (cases_Bool (b == 97)) [
  | inl x ↦ elim (cases_Bool (c == 97)) [
    | inl y ↦ one b lb x ∙ sym (one c lc y)
    | inr n ↦ absurd (let e : 2 ≡ 0 = sym (letter b x 1) ∙ same 1 (omega arith) ∙ other c n 1 in omega (arith, e))
  ]
  | inr m ↦ elim (cases_Bool (c == 97)) [
    | inl y ↦ absurd (let e : 0 ≡ 2 = sym (other b m 1) ∙ same 1 (omega arith) ∙ letter c y 1 in omega (arith, e))
    | inr n ↦ none b lb m ∙ sym (none c lc n)
  ]
]

apart : (b c : ℕ) → b < 256 → c < 256 → slice_index classes b ≡ slice_index classes c → Alike 4 by_a b c
apart b c lb lc same = λ s lt. elim (cases_Bool (b == 97)) [
  | inl x ↦ elim (cases_Bool (c == 97)) [
    | inl y ↦ letter b x s ∙ sym (letter c y s)
    | inr n ↦ absurd (let e : 1 ≡ 0 = sym (one b lb x) ∙ same ∙ none c lc n in omega (arith, e))
  ]
  | inr m ↦ elim (cases_Bool (c == 97)) [
    | inl y ↦ absurd (let e : 0 ≡ 1 = sym (none b lb m) ∙ same ∙ one c lc y in omega (arith, e))
    | inr n ↦ other b m s ∙ sym (other c n s)
  ]
]

order : (b k : ℕ) → b < 256 → k < slice_index classes b → (c : ℕ) × (c < b) × (slice_index classes c ≡ k)
order b k lt less = elim (cases_Bool (b == 97)) [
  | inl x ↦ (0, (let e = eqb-true b 97 x in omega (arith, e)), (let e = one b lt x in omega (arith, e, less)))
  | inr n ↦ absurd (let e = none b lt n in omega (arith, e, less))
]

below : (b : ℕ) → b < 256 → slice_index classes b < 2
below b lt = elim (cases_Bool (b == 97)) [
  | inl x ↦ (let e = one b lt x in omega (arith, e))
  | inr n ↦ (let e = none b lt n in omega (arith, e))
]

used : (k : ℕ) → k < 2 → (b : ℕ) × (b < 256) × (slice_index classes b ≡ k)
used zero lt = (0, omega arith, refl)
used (suc zero) lt = (97, omega arith, refl)
used (suc (suc k)) lt = absurd (omega (arith, lt))

abbrev to : ℕ → ℕ → ℕ
to = by_class by_a classes

bit : (b : Bool) → cond b 1 0 ≤ 1
bit true = omega arith
bit false = omega arith

no_bit : (t : ℕ) → cond {A = ℕ} (0 == suc t) 1 0 ≡ 0
no_bit t = elim (cases_Bool (0 == suc t)) [
  | inl e ↦ absurd (let x = eqb-true 0 (suc t) e in omega (arith, x))
  | inr n ↦ cond-false (0 == suc t) 1 0 n
]

default : (s : ℕ) → s < 4 → IsDefault (to s) 2 (slice_index defaults s)
default zero lt = record { most = λ t. (let x = bit (0 == t) in omega (arith, x)); least = λ t e. omega arith }
default (suc zero) lt = record { most = most; least = λ t e. omega arith }
  where
    most : (t : ℕ) → often (to 1) 2 t ≤ often (to 1) 2 0
    most zero = omega arith
    most (suc t) = let x = bit (to 1 1 == suc t) in let y = no_bit t in omega (arith, x, y)
default (suc (suc zero)) lt = record { most = most; least = λ t e. omega arith }
  where
    most : (t : ℕ) → often (to 2) 2 t ≤ often (to 2) 2 0
    most zero = omega arith
    most (suc t) = let x = bit (to 2 1 == suc t) in let y = no_bit t in omega (arith, x, y)
default (suc (suc (suc zero))) lt = record { most = λ t. (let x = bit (0 == t) in omega (arith, x)); least = λ t e. omega arith }
default (suc (suc (suc (suc s)))) lt = absurd (omega (arith, lt))

-- the states with an entry
entries : (s k : ℕ) → s < 4 → IsEntry to 2 defaults s k → (k ≡ 1) × ((s ≡ 1) ⊎ (s ≡ 2))
entries s (suc (suc k)) lt e = absurd (let x = e.class in omega (arith, x))
entries zero zero lt e = absurd (e.other refl)
entries (suc zero) zero lt e = absurd (e.other refl)
entries (suc (suc zero)) zero lt e = absurd (e.other refl)
entries (suc (suc (suc zero))) zero lt e = absurd (e.other refl)
entries (suc (suc (suc (suc s)))) zero lt e = absurd (omega (arith, lt))
entries zero (suc zero) lt e = absurd (e.other refl)
entries (suc zero) (suc zero) lt e = (refl, inl refl)
entries (suc (suc zero)) (suc zero) lt e = (refl, inr refl)
entries (suc (suc (suc zero))) (suc zero) lt e = absurd (e.other refl)
entries (suc (suc (suc (suc s)))) (suc zero) lt e = absurd (omega (arith, lt))

entry_of_1 : IsEntry to 2 defaults 1 1
entry_of_1 = record { class = omega arith; other = λ e. omega (arith, e) }

entry_of_2 : IsEntry to 2 defaults 2 1
entry_of_2 = record { class = omega arith; other = λ e. omega (arith, e) }

-- the slot of an entry of a state before
taken : (s i : ℕ) → s ≤ 4 → IsTaken to 2 defaults bases s i → ((i ≡ 1) × (1 < s)) ⊎ ((i ≡ 2) × (2 < s))
taken s i few t =
    let (class, which) = entries t.state t.class (let x = t.before in omega (arith, x, few)) t.entry in
    let at : i ≡ slice_index bases t.state + 1 = sym t.here ∙ ap (λ k. slice_index bases t.state + k) class in
    elim which [
      | inl e ↦ inl (at ∙ ap (λ n. slice_index bases n + 1) e, (let x = t.before in omega (arith, x, e)))
      | inr e ↦ inr (at ∙ ap (λ n. slice_index bases n + 1) e, (let x = t.before in omega (arith, x, e)))
    ]

fits : (s b k : ℕ) → s < 4 → b ≡ slice_index bases s → IsEntry to 2 defaults s k → IsTaken to 2 defaults bases s (b + k) → ⊥
fits s b k lt at e t =
    let (one, which) = entries s k lt e in
    let here = taken s (b + k) (omega (arith, lt)) t in
    elim which [
      | inl x ↦ elim here [ inl h ↦ (let y = h.1 in omega (arith, x, y)) | inr h ↦ (let y = h.1 in omega (arith, x, y)) ]
      | inr x ↦ elim here [
        | inl h ↦ (let y = h.0 in let z : b ≡ 1 = at ∙ ap (λ n. slice_index bases n) x in omega (arith, y, z, one))
        | inr h ↦ (let y = h.1 in omega (arith, x, y))
      ]
    ]

base : (s : ℕ) → s < 4 → IsBase to 2 defaults bases s (slice_index bases s)
base s lt = record { fits = λ k e t. fits s (slice_index bases s) k lt refl e t; least = least s lt }
  where
    least : (s : ℕ) → s < 4 → (c : ℕ) → c < slice_index bases s → AreFree to 2 defaults bases s c → ⊥
    least zero lt c less all = omega (arith, less)
    least (suc zero) lt c less all = omega (arith, less)
    least (suc (suc zero)) lt zero less all = all 1 entry_of_2 (record { state = 1; class = 1; before = omega arith; entry = entry_of_1; here = refl })
    least (suc (suc zero)) lt (suc c) less all = omega (arith, less)
    least (suc (suc (suc zero))) lt c less all = omega (arith, less)
    least (suc (suc (suc (suc s)))) lt c less all = omega (arith, lt)

size : IsSize 4 2 bases 3
size = record { all = all; one = (2, omega arith, refl) }
  where
    all : (s : ℕ) → s < 4 → slice_index bases s + 2 ≤ 3
    all zero lt = omega arith
    all (suc zero) lt = omega arith
    all (suc (suc zero)) lt = omega arith
    all (suc (suc (suc zero))) lt = omega arith
    all (suc (suc (suc (suc s)))) lt = absurd (omega (arith, lt))

slots : AreSlots 4 to 2 defaults bases (packing_in twice_a).check (packing_in twice_a).next
slots = record { used = held; rest = rest }
  where
    at : ℕ → ℕ → Type 0
    at s k = (slice_index (packing_in twice_a).check (slice_index bases s + k) ≡ s) × (slice_index (packing_in twice_a).next (slice_index bases s + k) ≡ to s k)

    held : (s k : ℕ) → s < 4 → IsEntry to 2 defaults s k → at s k
    held s k lt e = subst (λ n. at s n) (sym (entries s k lt e).0) (elim (entries s k lt e).1 [
      | inl x ↦ subst (λ n. at n 1) (sym x) (refl, refl)
      | inr x ↦ subst (λ n. at n 1) (sym x) (refl, refl)
    ])

    rest : (i : ℕ) → i < 3 → IsTaken to 2 defaults bases 4 i ⊎ ((slice_index (packing_in twice_a).check i ≡ 0) × (slice_index (packing_in twice_a).next i ≡ 0))
    rest zero lt = inr (refl, refl)
    rest (suc zero) lt = inl (record { state = 1; class = 1; before = omega arith; entry = entry_of_1; here = refl })
    rest (suc (suc zero)) lt = inl (record { state = 2; class = 1; before = omega arith; entry = entry_of_2; here = refl })
    rest (suc (suc (suc i))) lt = absurd (omega (arith, lt))

pub twice_a_packed : TwiceA
twice_a_packed = packed_of 4 by_a twice_a (record {
  classes = record { bytes = refl; alike = alike; apart = apart; order = order; below = below; used = used };
  rows = record { defaults_len = refl; default = default; bases_len = refl; base = base; check_len = size; next_len = size; slots = slots };
})
