-- The numbers that pass a test, one after another.
use Rattle.std.proofs.Common.{◌≡◌, ℕ, zero, suc, ◌+◌, Bool, true, cond, List, ◌∷◌, refl, ◌∙◌, ap, arith}
use Rattle.std.specs.List.{filter, range_with_len}
use Rattle.lex_semantics.specs.Text.{listed}

pub listed_is : (test : ℕ → Bool) (i n : ℕ) → filter test (range_with_len i n) ≡ listed test i n
listed_is test i zero = refl
listed_is test i (suc n) =
    let next : i + 1 ≡ suc i = omega arith in
    ap (λ (l : List ℕ). cond (test i) (i ∷ l) l) (ap (λ k. filter test (range_with_len k n)) next ∙ listed_is test (suc i) n)

pub range_is : (i n : ℕ) → range_with_len i n ≡ listed (λ c. true) i n
range_is i zero = refl
range_is i (suc n) = let next : i + 1 ≡ suc i = omega arith in ap (λ l. i ∷ l) (ap (λ k. range_with_len k n) next ∙ range_is (suc i) n)
