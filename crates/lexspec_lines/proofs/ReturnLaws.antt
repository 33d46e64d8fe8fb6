-- Carriage returns before newlines, dropped run by run.
use Rattle.std.proofs.Common.{◌≡◌, ℕ, zero, suc, ◌<◌, ◌==◌, Bool, true, false, ◌&&◌, if◌then◌else◌, List, [], ◌∷◌, ◌++◌, length, get_or, take, drop, refl, sym, ap, append_assoc, ◌∙◌, arith}
use Rattle.std.specs.Prelude.{Some, None, codes}
use Rattle.std.proofs.lemmas.Bool.{eqb-true}
use Rattle.bstr.specs.Find.{IsFirstByte, is_byte}
use Rattle.lex_semantics.specs.Reading.{begins}
use Rattle.lexspec_lines.specs.Lines.{without_returns}

-- what is kept of a return and the text after it, which begins with a newline or not
abbrev from_return : Bool → List ℕ → List ℕ
from_return b t = if b then without_returns t else 13 ∷ without_returns t

-- what is kept of a byte and the text after it, which is a return or not
abbrev from_byte : Bool → ℕ → List ℕ → List ℕ
from_byte b c t = if b && begins (codes "\n") t then without_returns t else c ∷ without_returns t

not_so : (b : Bool) → (b ≡ true → ⊥) → b ≡ false
not_so true h = absurd (h refl)
not_so false h = refl

none_dropped : (t : List ℕ) → IsFirstByte (is_byte 13) t None → without_returns t ≡ t
none_dropped [] h = refl
none_dropped (c ∷ t) h =
    ap (λ b. from_byte b c t) (not_so (c == 13) (h 0 (omega arith) (omega arith)))
    ∙ ap (λ (z : List ℕ). c ∷ z) (none_dropped t (λ k low high. h (suc k) (omega arith) (omega arith)))

-- a text without a return stays as it is
pub rest_kept : (text kept rest all : List ℕ) → IsFirstByte (is_byte 13) rest None → kept ++ without_returns rest ≡ without_returns text → all ≡ kept ++ rest → all ≡ without_returns text
rest_kept text kept rest all h e is = is ∙ ap (λ (z : List ℕ). kept ++ z) (sym (none_dropped rest h)) ∙ e

up_to_return : (t : List ℕ) (i : ℕ) → i < length t → ((k : ℕ) → k < i → (get_or t k 0 == 13) ≡ false) → (get_or t i 0 == 13) ≡ true
    → without_returns t ≡ take i t ++ from_return (begins (codes "\n") (drop 1 (drop i t))) (drop 1 (drop i t))
up_to_return [] i within none last = absurd (omega arith)
up_to_return (c ∷ t) zero within none last =
    ap (λ b. from_byte b c t) last ∙ ap (λ (z : ℕ). from_byte true z t) (eqb-true c 13 last)
up_to_return (c ∷ t) (suc i) within none last =
    ap (λ b. from_byte b c t) (none 0 (omega arith))
    ∙ ap (λ (z : List ℕ). c ∷ z) (up_to_return t i (omega arith) (λ k h. none (suc k) (omega arith)) last)

-- what stands before the first return is kept
kept_on : (text kept rest : List ℕ) (i : ℕ) → IsFirstByte (is_byte 13) rest (Some i) → kept ++ without_returns rest ≡ without_returns text
    → (kept ++ take i rest) ++ from_return (begins (codes "\n") (drop 1 (drop i rest))) (drop 1 (drop i rest)) ≡ without_returns text
kept_on text kept rest i h e =
    let below = h.0.high in
    append_assoc kept (take i rest) (from_return (begins (codes "\n") (drop 1 (drop i rest))) (drop 1 (drop i rest)))
    ∙ ap (λ (z : List ℕ). kept ++ z) (sym (up_to_return rest i below (λ k lt. not_so (get_or rest k 0 == 13) (h.0.before k (omega arith) lt)) h.1))
    ∙ e

-- the first return is dropped where a newline follows
pub return_dropped : (text kept rest front back after more : List ℕ) (i : ℕ) (newline : Bool) → IsFirstByte (is_byte 13) rest (Some i)
    → kept ++ without_returns rest ≡ without_returns text → front ≡ take i rest → back ≡ drop i rest → more ≡ kept ++ front → after ≡ drop 1 back
    → newline ≡ begins (codes "\n") after → newline ≡ true → more ++ without_returns after ≡ without_returns text
return_dropped text kept rest front back after more i newline h e is_front is_back is_more is_after is_newline is_true =
    let behind : after ≡ drop 1 (drop i rest) = is_after ∙ ap (λ (z : List ℕ). drop 1 z) is_back in
    let begun : begins (codes "\n") (drop 1 (drop i rest)) ≡ true = ap (λ (z : List ℕ). begins (codes "\n") z) (sym behind) ∙ sym is_newline ∙ is_true in
    ap (λ (z : List ℕ). z ++ without_returns after) (is_more ∙ ap (λ (z : List ℕ). kept ++ z) is_front)
    ∙ ap (λ (z : List ℕ). (kept ++ take i rest) ++ without_returns z) behind
    ∙ ap (λ (b : Bool). (kept ++ take i rest) ++ from_return b (drop 1 (drop i rest))) (sym begun)
    ∙ kept_on text kept rest i h e

-- and kept where none does
pub return_kept : (text kept rest front back after more all : List ℕ) (i : ℕ) (newline : Bool) → IsFirstByte (is_byte 13) rest (Some i)
    → kept ++ without_returns rest ≡ without_returns text → front ≡ take i rest → back ≡ drop i rest → more ≡ kept ++ front → after ≡ drop 1 back
    → newline ≡ begins (codes "\n") after → newline ≡ false → all ≡ more ++ 13 ∷ [] → all ++ without_returns after ≡ without_returns text
return_kept text kept rest front back after more all i newline h e is_front is_back is_more is_after is_newline is_false is_all =
    let behind : after ≡ drop 1 (drop i rest) = is_after ∙ ap (λ (z : List ℕ). drop 1 z) is_back in
    let begun : begins (codes "\n") (drop 1 (drop i rest)) ≡ false = ap (λ (z : List ℕ). begins (codes "\n") z) (sym behind) ∙ sym is_newline ∙ is_false in
    ap (λ (z : List ℕ). z ++ without_returns after) (is_all ∙ ap (λ (z : List ℕ). z ++ 13 ∷ []) (is_more ∙ ap (λ (z : List ℕ). kept ++ z) is_front))
    ∙ ap (λ (z : List ℕ). ((kept ++ take i rest) ++ 13 ∷ []) ++ without_returns z) behind
    ∙ append_assoc (kept ++ take i rest) (13 ∷ []) (without_returns (drop 1 (drop i rest)))
    ∙ ap (λ (b : Bool). (kept ++ take i rest) ++ from_return b (drop 1 (drop i rest))) (sym begun)
    ∙ kept_on text kept rest i h e
