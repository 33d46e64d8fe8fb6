-- What `try_from` says of a number, once it is an option.
use Rattle.std.proofs.lemmas.Bool.{cases_lt}
use Rattle.std.proofs.lemmas.Result.{OkIff-at_ok, OkIff-at_err}
use Rattle.std.proofs.Common.{⊎_elim, ◌≡◌, ℕ, ◌<◌, ◌≤◌, Some, None, Result, Ok, Err, refl, ◌∙◌}
use Rattle.std.specs.Result.{OkIff, result_ok}

pub fits : {E : Type 0} (limit : ℕ) (r : Result ℕ E) (n x : ℕ) → OkIff r (n < limit) n → Some x ≡ result_ok r → (n < limit) × (x ≡ n)
fits {E} limit (Ok y) n x h e =
    let p : (n < limit) × (y ≡ n) = OkIff-at_ok {E = E} (Ok y) (n < limit) n y h refl in
    let same : x ≡ y = cc in
    (p.0, same ∙ p.1)
fits limit (Err d) n x h e = cc

pub too_large : {E : Type 0} (limit : ℕ) (r : Result ℕ E) (n : ℕ) → OkIff r (n < limit) n → None ≡ result_ok r → limit ≤ n
too_large limit (Ok y) n h e = cc
too_large limit (Err d) n h e = ⊎_elim (λ lt. absurd (OkIff-at_err (Err d) (n < limit) n d h refl lt)) (λ le. le) (cases_lt n limit)
