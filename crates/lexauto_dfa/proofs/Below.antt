-- What a test says of each number below a bound, by trying them.
use Rattle.std.proofs.Common.{◌≡◌, ℕ, zero, suc, ◌<◌, Bool, true, ◌&&◌, inl, inr, ap, ◌∙◌, arith}
use Rattle.std.proofs.lemmas.Bool.{cases_eq, and_parts}

-- whether the test holds of each number below n
abbrev pub holds_below : ℕ → (ℕ → Bool) → Bool
holds_below zero test = true
holds_below (suc n) test = test n && holds_below n test

pub holds : (n : ℕ) (test : ℕ → Bool) → holds_below n test ≡ true → (k : ℕ) → k < n → test k ≡ true
holds zero test all k lt = absurd (omega (arith, lt))
holds (suc n) test all k lt = elim (cases_eq k n) [
  | inl e ↦ ap test e ∙ (and_parts _ _ all).0
  | inr other ↦ holds n test (and_parts _ _ all).1 k (omega (arith, lt, other))
]
