-- Texts in quotes, byte by byte.
use Rattle.std.proofs.Common.{◌≡◌, ℕ, zero, suc, ◌<◌, ◌≤◌, Bool, true, false, nat_lt, ◌==◌, if◌then◌else◌, List, [], ◌∷◌, length, Option, Some, None, unwrap_or, refl, sym, ap, ◌∙◌, subst, arith}
use Rattle.std.specs.Prelude.{option_map}
use Rattle.std.proofs.lemmas.Bool.Decides.{nat_tests}
use Rattle.lex_semantics.specs.ByteSets.{within, is_xdigit}
use Rattle.lex_semantics.specs.Escapes.{octal_at, hexadecimal_at, simple_escape, until_quote}
use Rattle.lex_semantics.specs.Reading.{take_up_to, value, is_empty, ◌>>=◌}
use Rattle.lexre_bytes.specs.EscapeSteps.{escape_from}
use Rattle.lexre_bytes.proofs.EscapeForms.{escape_is}
use Rattle.lexre_bytes.specs.Lexical.{escape_at}
use Rattle.lexre_bytes.specs.Quotes.{quoted_at, after_quotes}

abbrev Found : Type 0
Found = Option (ℕ × List ℕ)

abbrev IsShorter : ℕ → Found → Type 0
IsShorter n None = Unit {0}
IsShorter n (Some x) = length x.1 < n

pub take_up_to_within : (n : ℕ) (p : ℕ → Bool) (t : List ℕ) → length (take_up_to n p t).1 ≤ length t
unfolding take_up_to
take_up_to_within zero p t = omega arith
take_up_to_within (suc n) p [] = omega arith
take_up_to_within (suc n) p (c ∷ t) =
    let Fits : List ℕ × List ℕ → Type 0 = λ x. length x.1 ≤ length (c ∷ t) in
    elim (p c) as (λ b. Fits (if b then (c ∷ (take_up_to n p t).0, (take_up_to n p t).1) else ([], c ∷ t))) [
      | true ↦ omega (arith, take_up_to_within n p t)
      | false ↦ omega arith
    ]

octal_shorter : (c : ℕ) (t : List ℕ) → within 48 55 c ≡ true → IsShorter (length (c ∷ t)) (octal_at (c ∷ t))
unfolding octal_at take_up_to
octal_shorter c t h = rw h (go (nat_lt (value 8 (c ∷ (take_up_to 2 (within 48 55) t).0)) 256))
  where
    go : (b : Bool) → IsShorter (length (c ∷ t)) (if b then Some (value 8 (c ∷ (take_up_to 2 (within 48 55) t).0), (take_up_to 2 (within 48 55) t).1) else None)
    go true = omega (arith, take_up_to_within 2 (within 48 55) t)
    go false = tt

hexadecimal_within : (t : List ℕ) → IsShorter (suc (length t)) (hexadecimal_at t)
unfolding hexadecimal_at
hexadecimal_within t = go (is_empty (take_up_to 2 is_xdigit t).0)
  where
    go : (b : Bool) → IsShorter (suc (length t)) (if b then None else Some (value 16 (take_up_to 2 is_xdigit t).0, (take_up_to 2 is_xdigit t).1))
    go true = tt
    go false = omega (arith, take_up_to_within 2 is_xdigit t)

-- what follows the digits of an escape is no longer than the text
pub after_octal : (t rest : List ℕ) (b : ℕ) → ◌≡◌ {A = Found} (octal_at t) (Some (b, rest)) → length rest < suc (length t)
unfolding octal_at
after_octal t rest b e = let P : Found → Type 0 = λ f. IsShorter (suc (length t)) f in subst P e (go (nat_lt (value 8 (take_up_to 3 (within 48 55) t).0) 256))
  where
    go : (b : Bool) → IsShorter (suc (length t)) (if b then Some (value 8 (take_up_to 3 (within 48 55) t).0, (take_up_to 3 (within 48 55) t).1) else None)
    go true = omega (arith, take_up_to_within 3 (within 48 55) t)
    go false = tt

pub after_hexadecimal : (t rest : List ℕ) (b : ℕ) → ◌≡◌ {A = Found} (hexadecimal_at t) (Some (b, rest)) → length rest < suc (length t)
after_hexadecimal t rest b e = let P : Found → Type 0 = λ f. IsShorter (suc (length t)) f in subst P e (hexadecimal_within t)

or_itself : (c : ℕ) (t : List ℕ) (f : Found) → IsShorter (suc (length t)) f → length (unwrap_or f (c, t)).1 < length (c ∷ t)
or_itself c t None h = omega arith
or_itself c t (Some x) h = omega (arith, h)

shorter : (t : List ℕ) → IsShorter (length t) (escape_at t)
unfolding escape_from
shorter [] = rw (escape_is []) tt
shorter (c ∷ t) = rw (escape_is (c ∷ t)) (go (c == 10) (within 48 55 c) (c == 120) refl)
  where
    go : (b d e : Bool) → within 48 55 c ≡ d
        → IsShorter (length (c ∷ t)) (if b then None else if d then octal_at (c ∷ t) else if e then Some (unwrap_or (hexadecimal_at t) (c, t)) else Some (simple_escape c, t))
    go true d e h = tt
    go false true e h = octal_shorter c t h
    go false false true h = or_itself c t (hexadecimal_at t) (hexadecimal_within t)
    go false false false h = omega arith

-- an escape takes at least a byte
pub escape_shorter : (t rest : List ℕ) (b : ℕ) → ◌≡◌ {A = Found} (escape_at t) (Some (b, rest)) → length rest < length t
escape_shorter t rest b e = let P : Found → Type 0 = λ f. IsShorter (length t) f in subst P e (shorter t)

abbrev Quoted : Type 0
Quoted = Option (List ℕ × List ℕ)

abbrev rest_of : Quoted → Option (List ℕ)
rest_of o = option_map (λ x. x.1) o

abbrev with_byte : ℕ → Quoted → Quoted
with_byte b o = o >>= λ (bs, rest). Some (b ∷ bs, rest)

rest_with_byte : (b : ℕ) (o : Quoted) → rest_of (with_byte b o) ≡ rest_of o
rest_with_byte b None = refl
rest_with_byte b (Some x) = refl

-- one step, at a byte that is no quote and no newline
abbrev after_byte : ℕ → Found → Quoted
after_byte n f = f >>= λ (b, rest). with_byte b (quoted_at n rest)

abbrev Agree : ℕ → ℕ → ℕ → Type 0
Agree n m k = (t : List ℕ) → length t < k → quoted_at n t ≡ quoted_at m t

same_after : (n m k : ℕ) (f : Found) → IsShorter k f → Agree n m k → after_byte n f ≡ after_byte m f
same_after n m k None h same = refl
same_after n m k (Some x) h same = ap (with_byte x.0) (same x.1 h)

-- the number that bounds the bytes tells nothing once there is room
pub enough : (n m : ℕ) (t : List ℕ) → length t < n → length t < m → quoted_at n t ≡ quoted_at m t
unfolding until_quote
enough zero m t h k = absurd (omega arith)
enough (suc n) zero t h k = absurd (omega arith)
enough (suc n) (suc m) [] h k = refl
enough (suc n) (suc m) (c ∷ t) h k = go (λ u i. enough n m u (omega arith) (omega arith)) (c == 34) (c == 10) (c == 92)
  where
    go : Agree n m (suc (length t)) → (x y z : Bool)
        → ◌≡◌ {A = Quoted} (if x then Some ([], t) else after_byte n (if y then None else if z then escape_at t else Some (c, t)))
        (if x then Some ([], t) else after_byte m (if y then None else if z then escape_at t else Some (c, t)))
    go same true y z = refl
    go same false true z = refl
    go same false false true = same_after n m (length t) (escape_at t) (shorter t) (λ u i. same u (omega arith))
    go same false false false = ap (with_byte c) (same t (omega arith))

with_room : (n : ℕ) (t : List ℕ) → length t < n → rest_of (quoted_at n t) ≡ after_quotes t
unfolding after_quotes
with_room n t h = ap rest_of (enough n (suc (length t)) t h (omega arith))

pub after_nothing : after_quotes [] ≡ None
unfolding after_quotes until_quote
after_nothing = refl

pub after_closing : (t : List ℕ) → after_quotes (34 ∷ t) ≡ Some t
unfolding after_quotes until_quote
after_closing t = refl

pub after_newline : (t : List ℕ) → after_quotes (10 ∷ t) ≡ None
unfolding after_quotes until_quote
after_newline t = refl

at_backslash : (t : List ℕ) → after_quotes (92 ∷ t) ≡ rest_of (after_byte (suc (length t)) (escape_at t))
unfolding after_quotes until_quote
at_backslash t = refl

pub after_escape : (t rest : List ℕ) (b : ℕ) → ◌≡◌ {A = Found} (escape_at t) (Some (b, rest)) → after_quotes (92 ∷ t) ≡ after_quotes rest
after_escape t rest b e =
    at_backslash t ∙ ap (λ f. rest_of (after_byte (suc (length t)) f)) e ∙ rest_with_byte b (quoted_at (suc (length t)) rest)
    ∙ with_room (suc (length t)) rest (omega (arith, escape_shorter t rest b e))

pub after_bad_escape : (t : List ℕ) → ◌≡◌ {A = Found} (escape_at t) None → after_quotes (92 ∷ t) ≡ None
after_bad_escape t e = at_backslash t ∙ ap (λ f. rest_of (after_byte (suc (length t)) f)) e

at_other : (c : ℕ) (t : List ℕ) → (c == 34) ≡ false → (c == 10) ≡ false → (c == 92) ≡ false → after_quotes (c ∷ t) ≡ rest_of (after_byte (suc (length t)) (Some (c, t)))
unfolding after_quotes until_quote
at_other c t h k l = rw (h, k, l) refl

pub after_other : (c : ℕ) (t : List ℕ) → (c == 34) ≡ false → (c == 10) ≡ false → (c == 92) ≡ false → after_quotes (c ∷ t) ≡ after_quotes t
after_other c t h k l = at_other c t h k l ∙ rest_with_byte c (quoted_at (suc (length t)) t) ∙ with_room (suc (length t)) t (omega arith)

-- The same, with what follows the whole.

pub closing_at : (rest after : List ℕ) (b : ℕ) (w : Option (List ℕ)) → after_quotes rest ≡ w → rest ≡ b ∷ after → b ≡ 34 → w ≡ Some after
closing_at rest after b w h e f = sym h ∙ ap after_quotes (e ∙ ap (λ x. x ∷ after) f) ∙ after_closing after

pub newline_at : (rest after : List ℕ) (b : ℕ) (w : Option (List ℕ)) → after_quotes rest ≡ w → rest ≡ b ∷ after → b ≡ 10 → w ≡ None
newline_at rest after b w h e f = sym h ∙ ap after_quotes (e ∙ ap (λ x. x ∷ after) f) ∙ after_newline after

pub nothing_at : (rest : List ℕ) (w : Option (List ℕ)) → after_quotes rest ≡ w → length rest ≡ 0 → w ≡ None
nothing_at [] w h e = sym h ∙ after_nothing
nothing_at (b ∷ rest) w h e = absurd (omega arith)

pub bad_escape_at : (rest after : List ℕ) (b : ℕ) (w : Option (List ℕ)) → after_quotes rest ≡ w → rest ≡ b ∷ after → b ≡ 92
    → ◌≡◌ {A = Found} (escape_at after) None → w ≡ None
bad_escape_at rest after b w h e f none = sym h ∙ ap after_quotes (e ∙ ap (λ x. x ∷ after) f) ∙ after_bad_escape after none

pub escape_passed : (rest after new : List ℕ) (b x : ℕ) (w : Option (List ℕ)) → after_quotes rest ≡ w → rest ≡ b ∷ after → b ≡ 92
    → ◌≡◌ {A = Found} (escape_at after) (Some (x, new)) → after_quotes new ≡ w
escape_passed rest after new b x w h e f found = sym (after_escape after new x found) ∙ sym (ap after_quotes (e ∙ ap (λ x. x ∷ after) f)) ∙ h

pub differs : (b k : ℕ) → (b ≡ k → ⊥) → (b == k) ≡ false
differs b k h = grind (arith, nat_tests)

pub other_passed : (rest after : List ℕ) (b : ℕ) (w : Option (List ℕ)) → after_quotes rest ≡ w → rest ≡ b ∷ after
    → (b ≡ 34 → ⊥) → (b ≡ 10 → ⊥) → (b ≡ 92 → ⊥) → after_quotes after ≡ w
other_passed rest after b w h e quote newline backslash =
    sym (after_other b after (differs b 34 quote) (differs b 10 newline) (differs b 92 backslash)) ∙ sym (ap after_quotes e) ∙ h
