-- Intervals between braces.
use Rattle.std.proofs.Common.{⊎_elim, ◌≡◌, ℕ, ◌<◌, ◌≤◌, min, Bool, true, false, not, ◌&&◌, nat_le, if◌then◌else◌, List, length, drop, Option, Some, None, Result, refl, sym, ap, ◌∙◌, arith}
use Rattle.std.proofs.lemmas.Bool.{cases_lt}
use Rattle.std.proofs.lemmas.Bool.Decides.{nat_tests}
use Rattle.std.specs.Prelude.{codes}
use Rattle.std.specs.Result.{OkIff, result_ok}
use Rattle.lex_semantics.specs.ByteSets.{is_digit}
use Rattle.lex_semantics.specs.Reading.{take_up_to, value, is_empty, begins}
use Rattle.lexre_bytes.specs.Lexical.{after_word}
use Rattle.lexre_bytes.specs.BraceSteps.{bounded, interval_at, interval}
use Rattle.lexre_bytes.specs.Symbols.{Symbol}
use Rattle.lexre_bytes.proofs.Narrowing.{fits, too_large}
use Rattle.lexre_bytes.specs.Limits.{max_times, number_cap}

pub begun : (w t u : List ℕ) → after_word w t ≡ Some u → (begins w t ≡ true) × (drop (length w) t ≡ u)
unfolding after_word
begun w t u h = go (begins w t) refl h
  where
    go : (b : Bool) → begins w t ≡ b → (if b then Some (drop (length w) t) else None) ≡ Some u → (begins w t ≡ true) × (drop (length w) t ≡ u)
    go true e k = (e, cc)
    go false e k = cc

pub not_begun : (w t : List ℕ) → after_word w t ≡ None → begins w t ≡ false
unfolding after_word
not_begun w t h = go (begins w t) refl h
  where
    go : (b : Bool) → begins w t ≡ b → ◌≡◌ {A = Option (List ℕ)} (if b then Some (drop (length w) t) else None) None → begins w t ≡ false
    go true e k = cc
    go false e k = e

in_order : (a b : ℕ) → a ≤ b → nat_le a b ≡ true
in_order a b h = grind (arith, nat_tests)

reversed : (a b : ℕ) → b < a → nat_le a b ≡ false
reversed a b h = grind (arith, nat_tests)

abbrev Found : Type 0
Found = Option (Symbol × List ℕ)

bounded_reversed : (m n : ℕ) (rest : List ℕ) → n < m → ◌≡◌ {A = Found} (bounded m n rest) None
unfolding bounded
bounded_reversed m n rest h = rw (reversed m n h) refl

bounded_above : (m n : ℕ) (rest : List ℕ) → max_times < n → ◌≡◌ {A = Found} (bounded m n rest) None
unfolding bounded
bounded_above m n rest h = rw (reversed n max_times h) (go (nat_le m n) (nat_le 1 n))
  where
    go : (a b : Bool) → ◌≡◌ {A = Found} (if a && b && false then Some (interval m (Some n), rest) else None) None
    go true true = refl
    go true false = refl
    go false b = refl

-- a count above the greatest may be capped
capped : (m n x y : ℕ) (rest : List ℕ) → x ≡ min number_cap m → y ≡ min number_cap n → ◌≡◌ {A = Found} (bounded m n rest) (bounded x y rest)
capped m n x y rest e f = ⊎_elim small (λ large. bounded_above m n rest (omega arith) ∙ sym (bounded_above x y rest (omega arith))) (cases_lt n 256)
  where
    small : n < 256 → ◌≡◌ {A = Found} (bounded m n rest) (bounded x y rest)
    small below = ⊎_elim (λ over. bounded_reversed m n rest over ∙ sym (bounded_reversed x y rest (omega arith)))
        (λ under. let a : x ≡ m = omega arith in let b : y ≡ n = omega arith in rw (a, b) refl) (cases_lt n m)

abbrev pub IsRun : List ℕ → List ℕ → List ℕ → Type 0
IsRun t digits rest = ◌≡◌ {A = List ℕ × List ℕ} (take_up_to (length t) is_digit t) (digits, rest)

abbrev upper : ℕ → List ℕ → List ℕ → Found
upper m most end = if not (is_empty most) && begins (codes "}") end then bounded m (value 10 most) (drop 1 end) else None

abbrev after_comma : ℕ → List ℕ → Found
after_comma m rest = let (most, end) = take_up_to (length (drop 1 rest)) is_digit (drop 1 rest) in upper m most end

abbrev after_least : ℕ → List ℕ → Found
after_least m rest =
    if begins (codes "}") rest then bounded m m (drop 1 rest)
    else if begins (codes ",}") rest then (if nat_le m max_times then Some (interval m None, drop 2 rest) else None)
    else if begins (codes ",") rest then after_comma m rest
    else None

interval_from : (t digits rest : List ℕ) → IsRun t digits rest → interval_at t ≡ after_least (value 10 digits) rest
unfolding interval_at
interval_from t digits rest e = rw e refl

pub exactly : (t digits rest after : List ℕ) (x : ℕ) (o : Found) → IsRun t digits rest → x ≡ min number_cap (value 10 digits) → after_word (codes "}") rest ≡ Some after
    → ◌≡◌ {A = Found} (bounded x x after) o → interval_at t ≡ o
exactly t digits rest after x o e f g h =
    let p = begun (codes "}") rest after g in
    interval_from t digits rest e ∙ rw p.0 (ap (bounded (value 10 digits) (value 10 digits)) p.1 ∙ capped _ _ x x after f f ∙ h)

open_end : (t digits rest after : List ℕ) → IsRun t digits rest → after_word (codes "}") rest ≡ None → after_word (codes ",}") rest ≡ Some after
    → interval_at t ≡ (if nat_le (value 10 digits) max_times then Some (interval (value 10 digits) None, after) else None)
open_end t digits rest after e f g =
    let p = begun (codes ",}") rest after g in
    interval_from t digits rest e ∙ rw (not_begun (codes "}") rest f, p.0) (ap (λ u. if nat_le (value 10 digits) max_times then Some (interval (value 10 digits) None, u) else None) p.1)

pub at_least : {E : Type 0} (t digits rest after : List ℕ) (r : Result ℕ E) (x y : ℕ) → IsRun t digits rest → x ≡ min number_cap (value 10 digits)
    → after_word (codes "}") rest ≡ None → after_word (codes ",}") rest ≡ Some after → OkIff r (x < 256) x → Some y ≡ result_ok r
    → interval_at t ≡ Some (interval y None, after)
at_least t digits rest after r x y e f g h k l =
    let p = fits 256 r x y k l in
    let same : value 10 digits ≡ y = omega (arith, p.0, p.1) in
    open_end t digits rest after e g h ∙ rw (in_order (value 10 digits) max_times (omega (arith, p.0))) (ap (λ n. Some (interval n None, after)) same)

pub at_least_too_many : {E : Type 0} (t digits rest after : List ℕ) (r : Result ℕ E) (x : ℕ) → IsRun t digits rest → x ≡ min number_cap (value 10 digits)
    → after_word (codes "}") rest ≡ None → after_word (codes ",}") rest ≡ Some after → OkIff r (x < 256) x → None ≡ result_ok r → interval_at t ≡ None
at_least_too_many t digits rest after r x e f g h k l =
    let large : 256 ≤ x = too_large 256 r x k l in
    open_end t digits rest after e g h ∙ rw (reversed (value 10 digits) max_times (omega arith)) refl

pub no_comma : (t digits rest : List ℕ) → IsRun t digits rest → after_word (codes "}") rest ≡ None → after_word (codes ",}") rest ≡ None
    → after_word (codes ",") rest ≡ None → interval_at t ≡ None
no_comma t digits rest e f g h =
    interval_from t digits rest e ∙ rw (not_begun (codes "}") rest f, not_begun (codes ",}") rest g, not_begun (codes ",") rest h) refl

pub record IsComma (t digits rest most end : List ℕ) : Type 0 where
  pub run : IsRun t digits rest
  pub no_brace : after_word (codes "}") rest ≡ None
  pub no_end : after_word (codes ",}") rest ≡ None
  pub new : List ℕ
  pub comma : after_word (codes ",") rest ≡ Some new
  pub second : IsRun new most end

comma_then : (t digits rest most end : List ℕ) → IsComma t digits rest most end → interval_at t ≡ upper (value 10 digits) most end
comma_then t digits rest most end h =
    let p = begun (codes ",") rest h.new h.comma in
    let same : IsRun (drop 1 rest) most end = rw p.1 h.second in
    interval_from t digits rest h.run ∙ rw (not_begun (codes "}") rest h.no_brace, not_begun (codes ",}") rest h.no_end, p.0) (rw same refl)

pub comma_unclosed : (t digits rest most end : List ℕ) → IsComma t digits rest most end → after_word (codes "}") end ≡ None → interval_at t ≡ None
comma_unclosed t digits rest most end h e = comma_then t digits rest most end h ∙ rw (not_begun (codes "}") end e) (go (is_empty most))
  where
    go : (b : Bool) → ◌≡◌ {A = Found} (if not b && false then bounded (value 10 digits) (value 10 most) (drop 1 end) else None) None
    go true = refl
    go false = refl

pub comma_no_digit : (t digits rest most end : List ℕ) → IsComma t digits rest most end → is_empty most ≡ true → interval_at t ≡ None
comma_no_digit t digits rest most end h e = comma_then t digits rest most end h ∙ rw e refl

pub between : (t digits rest most end after : List ℕ) (x y : ℕ) (o : Found) → IsComma t digits rest most end → x ≡ min number_cap (value 10 digits) → y ≡ min number_cap (value 10 most)
    → is_empty most ≡ false → after_word (codes "}") end ≡ Some after → ◌≡◌ {A = Found} (bounded x y after) o → interval_at t ≡ o
between t digits rest most end after x y o h e f some g k =
    let p = begun (codes "}") end after g in
    comma_then t digits rest most end h ∙ rw (some, p.0) (ap (bounded (value 10 digits) (value 10 most)) p.1 ∙ capped _ _ x y after e f ∙ k)
