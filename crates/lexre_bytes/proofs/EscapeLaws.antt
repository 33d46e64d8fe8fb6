-- Escapes by their digits.
use Rattle.std.proofs.Common.{◌≡◌, ℕ, ◌<◌, ◌≤◌, min, Bool, true, false, nat_lt, if◌then◌else◌, List, [], ◌∷◌, Option, Some, None, Result, refl, ap, ◌∙◌, subst, arith}
use Rattle.std.proofs.lemmas.Bool.{lt-ltb, le-ltb}
use Rattle.std.proofs.lemmas.Bool.Decides.{nat_tests}
use Rattle.std.specs.Result.{OkIff, result_ok}
use Rattle.lex_semantics.specs.ByteSets.{within, is_xdigit, is_digit}
use Rattle.lex_semantics.specs.Escapes.{octal_at, hexadecimal_at}
use Rattle.lex_semantics.specs.Reading.{take_up_to, value, is_empty, digit_of}
use Rattle.lexre_bytes.proofs.Narrowing.{fits, too_large}
use Rattle.lexre_bytes.specs.Limits.{number_cap}

abbrev Found : Type 0
Found = Option (ℕ × List ℕ)

octal_from : (t digits rest : List ℕ) → ◌≡◌ {A = List ℕ × List ℕ} (take_up_to 3 (within 48 55) t) (digits, rest)
    → ◌≡◌ {A = Found} (octal_at t) (if nat_lt (value 8 digits) 256 then Some (value 8 digits, rest) else None)
unfolding octal_at
octal_from t digits rest e = rw e refl

pub octal_found : {E : Type 0} (t digits rest : List ℕ) (r : Result ℕ E) (v x : ℕ) → ◌≡◌ {A = List ℕ × List ℕ} (take_up_to 3 (within 48 55) t) (digits, rest)
    → v ≡ min number_cap (value 8 digits) → OkIff r (v < 256) v → Some x ≡ result_ok r → ◌≡◌ {A = Found} (octal_at t) (Some (x, rest))
octal_found t digits rest r v x e f h k =
    let p = fits 256 r v x h k in
    let same : value 8 digits ≡ x = omega (arith, p.0, p.1) in
    octal_from t digits rest e ∙ rw (lt-ltb (value 8 digits) 256 (omega (arith, p.0))) (ap (λ n. Some (n, rest)) same)

pub octal_refused : {E : Type 0} (t digits rest : List ℕ) (r : Result ℕ E) (v : ℕ) → ◌≡◌ {A = List ℕ × List ℕ} (take_up_to 3 (within 48 55) t) (digits, rest)
    → v ≡ min number_cap (value 8 digits) → OkIff r (v < 256) v → None ≡ result_ok r → ◌≡◌ {A = Found} (octal_at t) None
octal_refused t digits rest r v e f h k =
    let large : 256 ≤ v = too_large 256 r v h k in
    octal_from t digits rest e ∙ rw (le-ltb (value 8 digits) 256 (omega arith)) refl

-- a hexadecimal digit is below 16
digit_of-lt : (c : ℕ) → is_xdigit c ≡ true → digit_of c < 16
unfolding is_xdigit is_digit
digit_of-lt c h = grind (arith, nat_tests)

two_digits : (t : List ℕ) → value 16 (take_up_to 2 is_xdigit t).0 < 256
unfolding take_up_to
two_digits [] = omega arith
two_digits (c ∷ []) = first (is_xdigit c) refl
  where
    first : (b : Bool) → is_xdigit c ≡ b → value 16 (take_up_to 2 is_xdigit (c ∷ [])).0 < 256
    first true h = rw h (omega (arith, digit_of-lt c h))
    first false h = rw h (omega arith)
two_digits (c ∷ d ∷ t) = first (is_xdigit c) (is_xdigit d) refl refl
  where
    first : (b e : Bool) → is_xdigit c ≡ b → is_xdigit d ≡ e → value 16 (take_up_to 2 is_xdigit (c ∷ d ∷ t)).0 < 256
    first true true h k = rw (h, k) (omega (arith, digit_of-lt c h, digit_of-lt d k))
    first true false h k = rw (h, k) (omega (arith, digit_of-lt c h))
    first false e h k = rw h (omega arith)

hexadecimal_from : (t digits rest : List ℕ) → ◌≡◌ {A = List ℕ × List ℕ} (take_up_to 2 is_xdigit t) (digits, rest)
    → ◌≡◌ {A = Found} (hexadecimal_at t) (if is_empty digits then None else Some (value 16 digits, rest))
unfolding hexadecimal_at
hexadecimal_from t digits rest e = rw e refl

pub hexadecimal_none : (t digits rest : List ℕ) → ◌≡◌ {A = List ℕ × List ℕ} (take_up_to 2 is_xdigit t) (digits, rest)
    → is_empty digits ≡ true → ◌≡◌ {A = Found} (hexadecimal_at t) None
hexadecimal_none t digits rest e none = hexadecimal_from t digits rest e ∙ rw none refl

fits_byte : (t digits rest : List ℕ) → ◌≡◌ {A = List ℕ × List ℕ} (take_up_to 2 is_xdigit t) (digits, rest) → value 16 digits < 256
fits_byte t digits rest e = let P : List ℕ × List ℕ → Type 0 = λ x. value 16 x.0 < 256 in subst P e (two_digits t)

pub hexadecimal_found : {E : Type 0} (t digits rest : List ℕ) (r : Result ℕ E) (v x : ℕ) → ◌≡◌ {A = List ℕ × List ℕ} (take_up_to 2 is_xdigit t) (digits, rest)
    → is_empty digits ≡ false → v ≡ min number_cap (value 16 digits) → OkIff r (v < 256) v → Some x ≡ result_ok r → ◌≡◌ {A = Found} (hexadecimal_at t) (Some (x, rest))
hexadecimal_found t digits rest r v x e some f h k =
    let p = fits 256 r v x h k in
    let same : value 16 digits ≡ x = omega (arith, p.0, p.1) in
    hexadecimal_from t digits rest e ∙ rw some (ap (λ n. Some (n, rest)) same)

pub hexadecimal_fits : {E : Type 0} (t digits rest : List ℕ) (r : Result ℕ E) (v : ℕ) → ◌≡◌ {A = List ℕ × List ℕ} (take_up_to 2 is_xdigit t) (digits, rest)
    → v ≡ min number_cap (value 16 digits) → OkIff r (v < 256) v → None ≡ result_ok r → ⊥
hexadecimal_fits t digits rest r v e f h k = omega (arith, too_large 256 r v h k, fits_byte t digits rest e)
