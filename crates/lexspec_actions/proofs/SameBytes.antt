-- What Bytes says by pieces is what the code reads byte by byte.
use Rattle.std.proofs.Common.{◌≡◌, ℕ, zero, suc, ◌≤◌, ◌==◌, Bool, true, false, List, [], ◌∷◌, length, Option, Some, None, refl, sym, ap, ◌∙◌, subst, arith, take, drop, get_or, ◌-◌}
use Rattle.std.specs.Prelude.{not, ◌||◌, is_some, if◌then◌else◌, unwrap_or, fold, codes}
use Rattle.std.specs.List.{list_any}
use Rattle.std.proofs.lemmas.List.{take_all}
use Rattle.std.proofs.lemmas.Bool.{ne_eqb, eq-eqb}
use Rattle.lex_semantics.specs.ByteSets.{within, is_blank}
use Rattle.lex_semantics.specs.Reading.{◌>>=◌, take_up_to, is_white, begins, Reader}
use Rattle.lex_semantics.specs.Active.{contains}
use Rattle.lex_semantics.specs.Escapes.{simple_escape, is_octal, octal_at, hexadecimal_at, byte_with, until_quote}
use Rattle.lexre_bytes.specs.Lexical.{after_word}
use Rattle.lexre_bytes.proofs.SignLaws.{by_sign, turned}
use Rattle.lexre_bytes.proofs.EscapeForms as forms
use Rattle.lexre_bytes.specs.EscapeSteps as pattern
use Rattle.lexre_bytes.proofs.QuoteLaws.{take_up_to_within}
use Rattle.lexspec_actions.specs.Comments.{after_star}
use Rattle.lexspec_actions.specs.ByteSteps.{outside, slash, block, star, line}
use Rattle.lexspec_actions.specs.Bytes.{after_space, after_spaces, expect, string_escape_at, literal_at}
use Rattle.lexspec_actions.specs.ByteSteps.{skip_in, first_is, as_byte, plain_escape, escape_from, string_byte_at, string_at}

-- in a `/* .. */` comment, also after a star
record Blocks (t : List ℕ) : Type 0 where
  plain : skip_in block t ≡ skip_in outside (unwrap_or (after_star t) [])
  starred : skip_in star t ≡ skip_in outside (unwrap_or (after_star (42 ∷ t)) [])

plain_block : (c : ℕ) (t : List ℕ) → Blocks t → skip_in block (c ∷ t) ≡ skip_in outside (unwrap_or (after_star (c ∷ t)) [])
plain_block c t h = by_sign c 42 (λ e. rw e (h.starred)) (λ n. rw (ne_eqb c 42 n, turned c 42 n) (h.plain))

starred_block : (c : ℕ) (t : List ℕ) → Blocks t → skip_in star (c ∷ t) ≡ skip_in outside (unwrap_or (after_star (42 ∷ c ∷ t)) [])
starred_block c t h = by_sign c 47
    (λ e. rw e refl)
    (λ n. rw (ne_eqb c 47 n, turned c 47 n) (by_sign c 42 (λ e. rw e (h.starred)) (λ m. rw (ne_eqb c 42 m, turned c 42 m) (h.plain))))

blocks : (t : List ℕ) → Blocks t
blocks [] = record { plain = refl; starred = refl }
blocks (c ∷ t) = record { plain = plain_block c t (blocks t); starred = starred_block c t (blocks t) }

-- in a `//` comment
lines : (n : ℕ) (t : List ℕ) → length t ≤ n → skip_in line t ≡ skip_in outside (take_up_to n (λ b. not (b == 10)) t).1
unfolding take_up_to is_blank
lines zero [] h = refl
lines zero (c ∷ t) h = absurd (omega arith)
lines (suc n) [] h = refl
lines (suc n) (c ∷ t) h = by_sign c 10 (λ e. rw e refl) (λ m. rw (ne_eqb c 10 m) (lines n t (omega arith)))

star_within : (t : List ℕ) → length (unwrap_or (after_star t) []) ≤ length t
star_within [] = omega arith
star_within (c ∷ t) = from (begins (codes "*/") (c ∷ t)) (star_within t)
  where
    short : (u : List ℕ) → length (drop 1 u) ≤ suc (length u)
    short [] = omega arith
    short (d ∷ u) = omega arith

    from : (b : Bool) → length (unwrap_or (after_star t) []) ≤ length t → length (unwrap_or (if b then Some (drop 1 t) else after_star t) []) ≤ suc (length t)
    from true h = short t
    from false h = omega arith

-- what a blank, a newline or a comment comes to
abbrev AfterOf : List ℕ → List ℕ → Option (List ℕ) → Type 0
AfterOf left t None = left ≡ t
AfterOf left t (Some rest) = (left ≡ skip_in outside rest) × (suc (length rest) ≤ length t)

slashed : (t : List ℕ) → AfterOf (skip_in slash t) (47 ∷ t) (after_space (47 ∷ t))
unfolding after_space after_word is_blank
slashed [] = refl
slashed (d ∷ u) = by_sign d 42
    (λ e. rw e ((blocks u).plain, omega (arith, star_within u)))
    (λ n. rw (ne_eqb d 42 n, turned d 42 n) (by_sign d 47
    (λ e. rw e (lines (length u) u (omega arith), omega (arith, take_up_to_within (length u) (λ b. not (b == 10)) u)))
    (λ m. rw (ne_eqb d 47 m, turned d 47 m) refl)))

spaces : (t : List ℕ) → AfterOf (skip_in outside t) t (after_space t)
unfolding after_space after_word is_blank
spaces [] = refl
spaces (c ∷ t) = by_sign c 47 (λ e. rw e (slashed t)) (λ n. rw (ne_eqb c 47 n, turned c 47 n) (from (is_white c)))
  where
    from : (b : Bool) → AfterOf (if b then skip_in outside t else c ∷ t) (c ∷ t) (if b || false then Some t else None)
    from true = (refl, omega arith)
    from false = refl

-- a piece of what is passed over, for each byte
passed : List ℕ → List ℕ → List ℕ
passed t bs = fold (λ rest c. unwrap_or (after_space rest) rest) t bs

none_passed : (t bs : List ℕ) → after_space t ≡ None → passed t bs ≡ t
unfolding passed
none_passed t [] h = refl
none_passed t (b ∷ bs) h = rw h (none_passed t bs h)

skipped : (t bs : List ℕ) → length t ≤ length bs → passed t bs ≡ skip_in outside t
unfolding passed
skipped [] [] h = refl
skipped (c ∷ t) [] h = absurd (omega arith)
skipped t (b ∷ bs) h = from (after_space t) refl (spaces t) (λ rest. skipped rest bs)
  where
    from : (o : Option (List ℕ)) → after_space t ≡ o → AfterOf (skip_in outside t) t (after_space t) → ((rest : List ℕ) → length rest ≤ length bs → passed rest bs ≡ skip_in outside rest)
        → passed (unwrap_or (after_space t) t) bs ≡ skip_in outside t
    from None e after more = rw e (none_passed t bs e ∙ sym (rw e at after))
    from (Some rest) e after more = let is = rw e at after in rw e (more rest (omega (arith, is.1)) ∙ sym is.0)

pub skip_is : (t : List ℕ) → after_spaces t ≡ skip_in outside t
unfolding after_spaces passed
skip_is t = skipped t t (omega arith)

pub nothing_skipped : (rest text : List ℕ) → length rest ≡ 0 → skip_in outside rest ≡ skip_in outside text → rest ≡ after_spaces text
nothing_skipped [] text none same = same ∙ sym (skip_is text)
nothing_skipped (c ∷ t) text none same = absurd (omega arith)

first_word : (c : ℕ) (t : List ℕ) → after_word (c ∷ []) t ≡ first_is c t
unfolding after_word
first_word c [] = refl
first_word c (d ∷ t) = by_sign d c (λ e. rw (e, eq-eqb c c refl) refl) (λ n. rw (ne_eqb d c n, turned d c n) refl)

pub next_is : (c : ℕ) (t : List ℕ) → expect (c ∷ []) t ≡ first_is c (after_spaces t)
unfolding expect
next_is c t = first_word c (after_spaces t)

found_first : (c : ℕ) (here : List ℕ) → 1 ≤ length here → get_or here 0 0 ≡ c → Some (take (length here - 1) (drop 1 here)) ≡ first_is c here
found_first c [] some same = absurd (omega arith)
found_first c (d ∷ u) some same =
    let all : take (suc (length u) - 1) u ≡ u = take_all (suc (length u) - 1) u (omega arith) in
    rw (eq-eqb d c same) (ap (λ x. Some x) all)

pub next_found : (c : ℕ) (t here : List ℕ) → here ≡ after_spaces t → 1 ≤ length here → get_or here 0 0 ≡ c → Some (take (length here - 1) (drop 1 here)) ≡ expect (c ∷ []) t
next_found c t here is some same = found_first c here some same ∙ ap (first_is c) is ∙ sym (next_is c t)

-- strings

until_same : (f g : Reader ℕ) → ((t : List ℕ) → f t ≡ g t) → (n : ℕ) (t : List ℕ) → until_quote f n t ≡ until_quote g n t
unfolding until_quote
until_same f g h zero t = refl
until_same f g h (suc n) [] = refl
until_same f g h (suc n) (c ∷ t) = rw (h (c ∷ t)) (from (g (c ∷ t)) (until_same f g h n))
  where
    from : (o : Option (ℕ × List ℕ)) → ((u : List ℕ) → until_quote f n u ≡ until_quote g n u)
        → if◌then◌else◌ {A = Option (List ℕ × List ℕ)} (c == 34) (Some ([], t)) (o >>= λ (b, rest). until_quote f n rest >>= λ (bs, after). Some (b ∷ bs, after))
        ≡ if◌then◌else◌ {A = Option (List ℕ × List ℕ)} (c == 34) (Some ([], t)) (o >>= λ (b, rest). until_quote g n rest >>= λ (bs, after). Some (b ∷ bs, after))
    from None more = refl
    from (Some (b, rest)) more = rw (more rest) refl

abbrev Each : (ℕ → Type 0) → List ℕ → Type 0
Each P [] = Unit {0}
Each P (d ∷ ds) = P d × Each P ds

any_of : (P : ℕ → Type 0) (c : ℕ) (ds : List ℕ) → Each P ds → list_any (λ d. d == c) ds ≡ true → P c
any_of P c [] h e = absurd (no e)
  where
    no : false ≡ true → ⊥
    no p = cc
any_of P c (d ∷ ds) (here, more) e = by_sign d c (λ same. subst P same here) (λ n. any_of P c ds more (rw (ne_eqb d c n) at e))

letter_fits : (c : ℕ) → list_any (λ d. d == c) (codes "abfnrtv\\\"'?") ≡ true → within 1 255 (simple_escape c) ≡ true
unfolding simple_escape
letter_fits c = any_of (λ d. within 1 255 (simple_escape d) ≡ true) c (codes "abfnrtv\\\"'?") (refl, (refl, (refl, (refl, (refl, (refl, (refl, (refl, (refl, (refl, (refl, tt)))))))))))

escape_is : (t : List ℕ) → string_escape_at t ≡ escape_from t
unfolding string_escape_at escape_from pattern.escape_from plain_escape after_word
escape_is [] = refl
escape_is (c ∷ t) = rw (forms.escape_is (c ∷ t)) (by_sign c 10 (λ e. rw e refl) (λ m. by_sign c 120
    (λ e. rw e (hexadecimal (hexadecimal_at t)))
    (λ n. rw (ne_eqb c 10 m, ne_eqb c 120 n, turned c 120 n) (from (is_octal c) (contains (codes "abfnrtv\\\"'?") c) (letter_fits c)))))
  where
    hexadecimal : (o : Option (ℕ × List ℕ))
        → ((if◌then◌else◌ {A = Option (ℕ × List ℕ)} (is_some o) (Some (unwrap_or o (120, t))) None) >>= λ (n, rest). if◌then◌else◌ {A = Option (ℕ × List ℕ)} (within 1 255 n) (Some (n, rest)) None)
        ≡ (o >>= λ (n, rest). as_byte n rest)
    hexadecimal None = refl
    hexadecimal (Some x) = refl

    from : (a b : Bool) → (b ≡ true → within 1 255 (simple_escape c) ≡ true)
        → ((if◌then◌else◌ {A = Option (ℕ × List ℕ)} (((a || b) || false) || false) (if◌then◌else◌ {A = Option (ℕ × List ℕ)} a (octal_at (c ∷ t)) (Some (simple_escape c, t))) None)
        >>= λ (n, rest). if◌then◌else◌ {A = Option (ℕ × List ℕ)} (within 1 255 n) (Some (n, rest)) None)
        ≡ if◌then◌else◌ {A = Option (ℕ × List ℕ)} a (octal_at (c ∷ t) >>= λ (n, rest). as_byte n rest) ((if◌then◌else◌ {A = Option ℕ} b (Some (simple_escape c)) None) >>= λ d. Some (d, t))
    from true b h = refl
    from false true h = rw (h refl) refl
    from false false h = refl

with_same : (f g : Reader ℕ) → ((t : List ℕ) → f t ≡ g t) → (t : List ℕ) → byte_with f t ≡ byte_with g t
with_same f g h [] = refl
with_same f g h (c ∷ t) = rw (h t) refl

pub literal_is : (t : List ℕ) → literal_at t ≡ (expect (codes "\"") t >>= λ inside. string_at (suc (length inside)) inside)
unfolding literal_at string_byte_at
literal_is t = from (expect (codes "\"") t)
  where
    from : (o : Option (List ℕ)) → (o >>= λ inside. until_quote (byte_with string_escape_at) (suc (length inside)) inside) ≡ (o >>= λ inside. string_at (suc (length inside)) inside)
    from None = refl
    from (Some inside) = until_same (byte_with string_escape_at) string_byte_at (with_same string_escape_at escape_from escape_is) (suc (length inside)) inside
