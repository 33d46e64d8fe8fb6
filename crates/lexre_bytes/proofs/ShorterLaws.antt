-- An element of a class takes at least a byte.
use Rattle.std.proofs.Common.{◌≡◌, ℕ, suc, ◌<◌, ◌≤◌, Bool, true, false, ◌&&◌, ◌==◌, nat_lt, nat_eq, if◌then◌else◌, List, [], ◌∷◌, length, drop, length-drop, Option, Some, None, refl, subst, arith, ◌∙◌}
use Rattle.std.specs.List.{ends_with}
use Rattle.std.specs.Prelude.{codes}
use Rattle.lex_semantics.specs.ByteSets.{is_alpha}
use Rattle.lex_semantics.specs.Reading.{◌>>=◌, take_up_to, is_empty, begins}
use Rattle.lexre_bytes.specs.Stops.{inside}
use Rattle.lexre_bytes.specs.Lexical.{span, after_word, escape_at, bracketed_at, range_at, element_at}
use Rattle.lexre_bytes.specs.Elements.{Element, named, unsupported, is_range}
use Rattle.lexre_bytes.specs.Brackets.{letters_at, named_at, enclosed_at, unsupported_at}
use Rattle.lexre_bytes.proofs.BracketForms.{bracketed_form}
use Rattle.lexre_bytes.proofs.BracketLaws.{negated_then, equivalence_then, collating_then}
use Rattle.lexre_bytes.proofs.QuoteLaws.{escape_shorter, take_up_to_within}
use Rattle.lex_semantics.specs.Escapes.{byte_with}

abbrev pub IsShorter : {A : Type 0} → ℕ → Option (A × List ℕ) → Type 0
IsShorter n None = Unit {0}
IsShorter n (Some x) = length x.1 < n

abbrev RestShorter : ℕ → Option (List ℕ) → Type 0
RestShorter n None = Unit {0}
RestShorter n (Some t) = length t < n

follows : {A B : Type 0} (n : ℕ) (o : Option (A × List ℕ)) (f : A × List ℕ → Option (B × List ℕ)) → IsShorter n o
    → ((x : A × List ℕ) → length x.1 < n → IsShorter n (f x)) → IsShorter n (o >>= f)
follows n None f h g = tt
follows n (Some x) f h g = g x h

rest_then : {B : Type 0} (n : ℕ) (o : Option (List ℕ)) (f : List ℕ → Option (B × List ℕ)) → RestShorter n o
    → ((t : List ℕ) → length t < n → IsShorter n (f t)) → IsShorter n (o >>= f)
rest_then n None f h g = tt
rest_then n (Some t) f h g = g t h

rest_rest : (n : ℕ) (o : Option (List ℕ)) (f : List ℕ → Option (List ℕ)) → RestShorter n o
    → ((t : List ℕ) → length t < n → RestShorter n (f t)) → RestShorter n (o >>= f)
rest_rest n None f h g = tt
rest_rest n (Some t) f h g = g t h

weaker : {A : Type 0} (n m : ℕ) (o : Option (A × List ℕ)) → n ≤ m → IsShorter n o → IsShorter m o
weaker n m None h k = tt
weaker n m (Some x) h k = omega (arith, k)

rest_weaker : (n m : ℕ) (o : Option (List ℕ)) → n ≤ m → RestShorter n o → RestShorter m o
rest_weaker n m None h k = tt
rest_weaker n m (Some x) h k = omega (arith, k)

word_shorter : (c : ℕ) (w t : List ℕ) → RestShorter (length t) (after_word (c ∷ w) t)
unfolding after_word
word_shorter c w [] = tt
word_shorter c w (d ∷ t) = go (begins (c ∷ w) (d ∷ t))
  where
    go : (b : Bool) → RestShorter (length (d ∷ t)) (if b then Some (drop (length (c ∷ w)) (d ∷ t)) else None)
    go true = omega (arith, length-drop (length w) t)
    go false = tt

-- letters may end where they began
letters_within : (t : List ℕ) → IsShorter (suc (length t)) (letters_at t)
unfolding letters_at
letters_within t = go (is_empty (take_up_to (length t) is_alpha t).0)
  where
    go : (b : Bool) → IsShorter (suc (length t)) (if b then None else after_word (codes ":]") (take_up_to (length t) is_alpha t).1 >>= λ after. Some ((take_up_to (length t) is_alpha t).0, after))
    go true = tt
    go false = rest_then (suc (length t)) _ _ (rest_weaker _ _ (after_word (codes ":]") (take_up_to (length t) is_alpha t).1) (omega (arith, take_up_to_within (length t) is_alpha t)) (word_shorter 58 (93 ∷ []) (take_up_to (length t) is_alpha t).1))
        (λ u h. h)

named_shorter : (t : List ℕ) → IsShorter (length t) (named_at t)
unfolding named_at
named_shorter t = rest_then (length t) (after_word (codes "[:") t) letters_at (word_shorter 91 (58 ∷ []) t) (λ u h. weaker _ _ (letters_at u) (omega arith) (letters_within u))

enclosed_shorter : (c : ℕ) (t : List ℕ) → RestShorter (suc (length t)) (enclosed_at c t)
unfolding enclosed_at
enclosed_shorter c t = go (nat_lt 1 (length (take_up_to (length t) inside t).0) && ends_with nat_eq (take_up_to (length t) inside t).0 (c ∷ []))
  where
    go : (b : Bool) → RestShorter (suc (length t)) (if b then after_word (codes "]") (take_up_to (length t) inside t).1 else None)
    go true = rest_weaker _ _ (after_word (codes "]") (take_up_to (length t) inside t).1) (omega (arith, take_up_to_within (length t) inside t)) (word_shorter 93 [] (take_up_to (length t) inside t).1)
    go false = tt

letters_rest : (n : ℕ) (o : Option (List ℕ × List ℕ)) → IsShorter n o → RestShorter n (o >>= λ (letters, after). Some after)
letters_rest n None h = tt
letters_rest n (Some x) h = h

unsupported_shorter : (t : List ℕ) → RestShorter (length t) (unsupported_at t)
unsupported_shorter t = negated (after_word (codes "[:^") t) refl (word_shorter 91 (58 ∷ 94 ∷ []) t)
  where
    collating : after_word (codes "[:^") t ≡ None → after_word (codes "[=") t ≡ None → RestShorter (length t) (unsupported_at t)
    collating e f = rw (collating_then t _ e f refl)
        (rest_rest (length t) (after_word (codes "[.") t) (enclosed_at 46) (word_shorter 91 (46 ∷ []) t) (λ u h. rest_weaker _ _ (enclosed_at 46 u) (omega arith) (enclosed_shorter 46 u)))

    equivalence : (o : Option (List ℕ)) → after_word (codes "[:^") t ≡ None → after_word (codes "[=") t ≡ o → RestShorter (length t) o → RestShorter (length t) (unsupported_at t)
    equivalence None e f h = collating e f
    equivalence (Some u) e f h = rw (equivalence_then t u _ e f refl) (rest_weaker _ _ (enclosed_at 61 u) (omega (arith, h)) (enclosed_shorter 61 u))

    negated : (o : Option (List ℕ)) → after_word (codes "[:^") t ≡ o → RestShorter (length t) o → RestShorter (length t) (unsupported_at t)
    negated None e h = equivalence (after_word (codes "[=") t) e refl (word_shorter 91 (61 ∷ []) t)
    negated (Some u) e h = rw (negated_then t u _ e refl) (letters_rest (length t) (letters_at u) (weaker _ _ (letters_at u) (omega (arith, h)) (letters_within u)))

abbrev Found : Type 0
Found = Option (Element × List ℕ)

abbrev Byte : Type 0
Byte = Option (ℕ × List ℕ)

abbrev Letters : Type 0
Letters = Option (List ℕ × List ℕ)

pub named_is : (t : List ℕ) (x : List ℕ × List ℕ) → ◌≡◌ {A = Letters} (named_at t) (Some x) → ◌≡◌ {A = Found} (bracketed_at t) (Some (named x.0, x.1))
named_is t x e = bracketed_form t ∙ rw e refl

pub unsupported_is : (t u : List ℕ) → ◌≡◌ {A = Letters} (named_at t) None → unsupported_at t ≡ Some u → ◌≡◌ {A = Found} (bracketed_at t) (Some (unsupported, u))
unsupported_is t u e f = bracketed_form t ∙ rw (e, f) refl

pub no_bracket : (t : List ℕ) → ◌≡◌ {A = Letters} (named_at t) None → unsupported_at t ≡ None → ◌≡◌ {A = Found} (bracketed_at t) None
no_bracket t e f = bracketed_form t ∙ rw (e, f) refl

pub bracketed_shorter : (t : List ℕ) → IsShorter (length t) (bracketed_at t)
bracketed_shorter t = first (named_at t) refl (named_shorter t)
  where
    second : (o : Option (List ℕ)) → ◌≡◌ {A = Letters} (named_at t) None → unsupported_at t ≡ o → RestShorter (length t) o → IsShorter (length t) (bracketed_at t)
    second None e f h = rw (no_bracket t e f) tt
    second (Some u) e f h = rw (unsupported_is t u e f) h

    first : (o : Letters) → ◌≡◌ {A = Letters} (named_at t) o → IsShorter (length t) o → IsShorter (length t) (bracketed_at t)
    first None e h = second (unsupported_at t) e refl (unsupported_shorter t)
    first (Some x) e h = rw (named_is t x e) h

pub byte_shorter : (t : List ℕ) → IsShorter (length t) (byte_with escape_at t)
byte_shorter [] = tt
byte_shorter (c ∷ t) = go (c == 10) (c == 92) (escape_at t) refl
  where
    go : (b d : Bool) (o : Byte) → ◌≡◌ {A = Byte} (escape_at t) o → IsShorter (length (c ∷ t)) (if b then None else if d then o else Some (c, t))
    go true d o e = tt
    go false true None e = tt
    go false true (Some x) e = omega (arith, escape_shorter t x.1 x.0 e)
    go false false o e = omega arith

abbrev byte_end : ℕ → Byte → Found
byte_end lo o = o >>= λ (hi, rest). Some (span lo hi, rest)

pub range_of_bytes : (lo : ℕ) (t : List ℕ) → ◌≡◌ {A = Found} (bracketed_at t) None → ◌≡◌ {A = Found} (range_at lo t) (byte_end lo (byte_with escape_at t))
unfolding range_at
range_of_bytes lo t e = rw (e, range_at) refl

pub range_of_bracket : (lo : ℕ) (t : List ℕ) (x : Element × List ℕ) → ◌≡◌ {A = Found} (bracketed_at t) (Some x) → ◌≡◌ {A = Found} (range_at lo t) (Some (unsupported, x.1))
unfolding range_at
range_of_bracket lo t x e = rw (e, range_at) refl

range_shorter : (lo : ℕ) (t : List ℕ) → IsShorter (length t) (range_at lo t)
range_shorter lo t = first (bracketed_at t) refl (bracketed_shorter t)
  where
    first : (o : Found) → ◌≡◌ {A = Found} (bracketed_at t) o → IsShorter (length t) o → IsShorter (length t) (range_at lo t)
    first None e h = rw (range_of_bytes lo t e) (follows (length t) (byte_with escape_at t) _ (byte_shorter t) (λ x k. k))
    first (Some x) e h = rw (range_of_bracket lo t x e) h

after_low : (n lo : ℕ) (rest : List ℕ) → length rest < n → IsShorter n (if is_range rest then range_at lo (drop 1 rest) else Some (span lo lo, rest))
after_low n lo rest h = go (is_range rest)
  where
    go : (b : Bool) → IsShorter n (if b then range_at lo (drop 1 rest) else Some (span lo lo, rest))
    go true = weaker _ _ (range_at lo (drop 1 rest)) (omega (arith, length-drop 1 rest)) (range_shorter lo (drop 1 rest))
    go false = h

abbrev after_byte : Byte → Found
after_byte o = o >>= λ (lo, rest). if is_range rest then range_at lo (drop 1 rest) else Some (span lo lo, rest)

pub element_of_byte : (t : List ℕ) → ◌≡◌ {A = Found} (bracketed_at t) None → ◌≡◌ {A = Found} (element_at t) (after_byte (byte_with escape_at t))
unfolding element_at
element_of_byte t e = rw (e, element_at) refl

pub element_of_bracket : (t : List ℕ) (x : Element × List ℕ) → ◌≡◌ {A = Found} (bracketed_at t) (Some x) → ◌≡◌ {A = Found} (element_at t) (Some x)
unfolding element_at
element_of_bracket t x e = rw (e, element_at) refl

element_shorter : (t : List ℕ) → IsShorter (length t) (element_at t)
element_shorter t = first (bracketed_at t) refl (bracketed_shorter t)
  where
    first : (o : Found) → ◌≡◌ {A = Found} (bracketed_at t) o → IsShorter (length t) o → IsShorter (length t) (element_at t)
    first None e h = rw (element_of_byte t e) (follows (length t) (byte_with escape_at t) _ (byte_shorter t) (λ x k. after_low (length t) x.0 x.1 k))
    first (Some x) e h = rw (element_of_bracket t x e) h

pub element_takes : (t rest : List ℕ) (e : Element) → ◌≡◌ {A = Found} (element_at t) (Some (e, rest)) → length rest < length t
element_takes t rest e h = let P : Found → Type 0 = λ f. IsShorter (length t) f in subst P h (element_shorter t)
