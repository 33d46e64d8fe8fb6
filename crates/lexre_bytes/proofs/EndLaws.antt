-- What follows an element of a class is an end of its text, and where the next closing bracket or newline stands.
use Rattle.std.proofs.Common.{◌≡◌, ℕ, zero, suc, ◌≤◌, ◌-◌, Bool, true, false, ◌&&◌, ◌==◌, nat_lt, nat_eq, if◌then◌else◌, List, [], ◌∷◌, ◌++◌, length, length-append, drop, take, Option, Some, None, unwrap_or, refl, sym, ap, ◌∙◌, subst, append_assoc, arith}
use Rattle.std.specs.List.{ends_with}
use Rattle.std.specs.Prelude.{codes}
use Rattle.lex_semantics.specs.ByteSets.{ByteSet, is_alpha, is_xdigit, within}
use Rattle.lex_semantics.specs.Escapes.{simple_escape, octal_at, hexadecimal_at, byte_with}
use Rattle.lex_semantics.specs.Reading.{◌>>=◌, take_up_to, value, is_empty, begins}
use Rattle.lexre_bytes.specs.EscapeSteps.{escape_from}
use Rattle.lexre_bytes.proofs.EscapeForms.{escape_is}
use Rattle.lexre_bytes.specs.Lexical.{span, after_word, escape_at, bracketed_at, range_at, element_at}
use Rattle.lexre_bytes.specs.Elements.{Element, is_range}
use Rattle.lexre_bytes.specs.Brackets.{letters_at, named_at, enclosed_at, unsupported_at}
use Rattle.lexre_bytes.specs.ClassSets.{member_at}
use Rattle.lexre_bytes.specs.Stops.{stop_of, inside}
use Rattle.std.proofs.lemmas.Slice.Eq.{starts_is}
use Rattle.std.proofs.lemmas.Bool.Decides.{Decides-eqb}
use Rattle.lexre_bytes.proofs.IntervalLaws.{begun}
use Rattle.lexre_bytes.proofs.QuoteLaws.{take_up_to_within}
use Rattle.lexre_bytes.proofs.BracketLaws.{negated_then, equivalence_then, collating_then}
use Rattle.lexre_bytes.proofs.ShorterLaws.{named_is, unsupported_is, no_bracket, range_of_bytes, range_of_bracket, element_of_byte, element_of_bracket}

-- the second is an end of the first
abbrev pub IsEnd : List ℕ → List ℕ → Type 0
IsEnd t u = (front : List ℕ) × (t ≡ front ++ u)

end_itself : (t : List ℕ) → IsEnd t t
end_itself t = ([], refl)

end_then : (t u v : List ℕ) → IsEnd t u → IsEnd u v → IsEnd t v
end_then t u v (f, e) (g, k) = (f ++ g, e ∙ ap (λ x. f ++ x) k ∙ sym (append_assoc f g v))

end_next : (c : ℕ) (t u : List ℕ) → IsEnd t u → IsEnd (c ∷ t) u
end_next c t u (f, e) = (c ∷ f, ap (λ x. c ∷ x) e)

end_drop : (n : ℕ) (t : List ℕ) → IsEnd t (drop n t)
end_drop zero t = end_itself t
end_drop (suc n) [] = end_itself []
end_drop (suc n) (c ∷ t) = end_next c t (drop n t) (end_drop n t)

end_take : (n : ℕ) (p : ℕ → Bool) (t : List ℕ) → IsEnd t (take_up_to n p t).1
unfolding take_up_to
end_take zero p t = end_itself t
end_take (suc n) p [] = end_itself []
end_take (suc n) p (c ∷ t) =
    let P : List ℕ × List ℕ → Type 0 = λ x. IsEnd (c ∷ t) x.1 in
    elim (p c) as (λ b. P (if b then (c ∷ (take_up_to n p t).0, (take_up_to n p t).1) else ([], c ∷ t))) [
      | true ↦ end_next c t _ (end_take n p t)
      | false ↦ end_itself (c ∷ t)
    ]

abbrev Ends : {A : Type 0} → List ℕ → Option (A × List ℕ) → Type 0
Ends t None = Unit {0}
Ends t (Some x) = IsEnd t x.1

abbrev RestEnds : List ℕ → Option (List ℕ) → Type 0
RestEnds t None = Unit {0}
RestEnds t (Some u) = IsEnd t u

follows : {A B : Type 0} (t : List ℕ) (o : Option (A × List ℕ)) (f : A × List ℕ → Option (B × List ℕ)) → Ends t o
    → ((x : A × List ℕ) → IsEnd t x.1 → Ends t (f x)) → Ends t (o >>= f)
follows t None f h g = tt
follows t (Some x) f h g = g x h

rest_then : {B : Type 0} (t : List ℕ) (o : Option (List ℕ)) (f : List ℕ → Option (B × List ℕ)) → RestEnds t o
    → ((u : List ℕ) → IsEnd t u → Ends t (f u)) → Ends t (o >>= f)
rest_then t None f h g = tt
rest_then t (Some u) f h g = g u h

rest_rest : (t : List ℕ) (o : Option (List ℕ)) (f : List ℕ → Option (List ℕ)) → RestEnds t o
    → ((u : List ℕ) → IsEnd t u → RestEnds t (f u)) → RestEnds t (o >>= f)
rest_rest t None f h g = tt
rest_rest t (Some u) f h g = g u h

weaker : {A : Type 0} (t u : List ℕ) (o : Option (A × List ℕ)) → IsEnd t u → Ends u o → Ends t o
weaker t u None h k = tt
weaker t u (Some x) h k = end_then t u x.1 h k

rest_weaker : (t u : List ℕ) (o : Option (List ℕ)) → IsEnd t u → RestEnds u o → RestEnds t o
rest_weaker t u None h k = tt
rest_weaker t u (Some x) h k = end_then t u x h k

word_ends : (w t : List ℕ) → RestEnds t (after_word w t)
unfolding after_word
word_ends w t = go (begins w t)
  where
    go : (b : Bool) → RestEnds t (if b then Some (drop (length w) t) else None)
    go true = end_drop (length w) t
    go false = tt

letters_end : (t : List ℕ) → Ends t (letters_at t)
unfolding letters_at
letters_end t = go (is_empty (take_up_to (length t) is_alpha t).0)
  where
    go : (b : Bool) → Ends t (if b then None else after_word (codes ":]") (take_up_to (length t) is_alpha t).1 >>= λ after. Some ((take_up_to (length t) is_alpha t).0, after))
    go true = tt
    go false = rest_then t (after_word (codes ":]") (take_up_to (length t) is_alpha t).1) _
        (rest_weaker t _ (after_word (codes ":]") (take_up_to (length t) is_alpha t).1) (end_take (length t) is_alpha t) (word_ends (codes ":]") _)) (λ u h. h)

named_ends : (t : List ℕ) → Ends t (named_at t)
unfolding named_at
named_ends t = rest_then t (after_word (codes "[:") t) letters_at (word_ends (codes "[:") t) (λ u h. weaker t u (letters_at u) h (letters_end u))

enclosed_ends : (c : ℕ) (t : List ℕ) → RestEnds t (enclosed_at c t)
unfolding enclosed_at
enclosed_ends c t = go (nat_lt 1 (length (take_up_to (length t) inside t).0) && ends_with nat_eq (take_up_to (length t) inside t).0 (c ∷ []))
  where
    go : (b : Bool) → RestEnds t (if b then after_word (codes "]") (take_up_to (length t) inside t).1 else None)
    go true = rest_weaker t _ (after_word (codes "]") (take_up_to (length t) inside t).1) (end_take (length t) inside t) (word_ends (codes "]") _)
    go false = tt

letters_rest : (t : List ℕ) (o : Option (List ℕ × List ℕ)) → Ends t o → RestEnds t (o >>= λ (letters, after). Some after)
letters_rest t None h = tt
letters_rest t (Some x) h = h

unsupported_ends : (t : List ℕ) → RestEnds t (unsupported_at t)
unsupported_ends t = negated (after_word (codes "[:^") t) refl (word_ends (codes "[:^") t)
  where
    collating : after_word (codes "[:^") t ≡ None → after_word (codes "[=") t ≡ None → RestEnds t (unsupported_at t)
    collating e f = rw (collating_then t _ e f refl)
        (rest_rest t (after_word (codes "[.") t) (enclosed_at 46) (word_ends (codes "[.") t) (λ u h. rest_weaker t u (enclosed_at 46 u) h (enclosed_ends 46 u)))

    equivalence : (o : Option (List ℕ)) → after_word (codes "[:^") t ≡ None → after_word (codes "[=") t ≡ o → RestEnds t o → RestEnds t (unsupported_at t)
    equivalence None e f h = collating e f
    equivalence (Some u) e f h = rw (equivalence_then t u _ e f refl) (rest_weaker t u (enclosed_at 61 u) h (enclosed_ends 61 u))

    negated : (o : Option (List ℕ)) → after_word (codes "[:^") t ≡ o → RestEnds t o → RestEnds t (unsupported_at t)
    negated None e h = equivalence (after_word (codes "[=") t) e refl (word_ends (codes "[=") t)
    negated (Some u) e h = rw (negated_then t u _ e refl) (letters_rest t (letters_at u) (weaker t u (letters_at u) h (letters_end u)))

abbrev Found : Type 0
Found = Option (Element × List ℕ)

abbrev Byte : Type 0
Byte = Option (ℕ × List ℕ)

abbrev Letters : Type 0
Letters = Option (List ℕ × List ℕ)

bracketed_ends : (t : List ℕ) → Ends t (bracketed_at t)
bracketed_ends t = first (named_at t) refl (named_ends t)
  where
    second : (o : Option (List ℕ)) → ◌≡◌ {A = Letters} (named_at t) None → unsupported_at t ≡ o → RestEnds t o → Ends t (bracketed_at t)
    second None e f h = rw (no_bracket t e f) tt
    second (Some u) e f h = rw (unsupported_is t u e f) h

    first : (o : Letters) → ◌≡◌ {A = Letters} (named_at t) o → Ends t o → Ends t (bracketed_at t)
    first None e h = second (unsupported_at t) e refl (unsupported_ends t)
    first (Some x) e h = rw (named_is t x e) h

octal_ends : (t : List ℕ) → Ends t (octal_at t)
unfolding octal_at
octal_ends t = go (nat_lt (value 8 (take_up_to 3 (within 48 55) t).0) 256)
  where
    go : (b : Bool) → Ends t (if b then Some (value 8 (take_up_to 3 (within 48 55) t).0, (take_up_to 3 (within 48 55) t).1) else None)
    go true = end_take 3 (within 48 55) t
    go false = tt

hexadecimal_ends : (t : List ℕ) → Ends t (hexadecimal_at t)
unfolding hexadecimal_at
hexadecimal_ends t = go (is_empty (take_up_to 2 is_xdigit t).0)
  where
    go : (b : Bool) → Ends t (if b then None else Some (value 16 (take_up_to 2 is_xdigit t).0, (take_up_to 2 is_xdigit t).1))
    go true = tt
    go false = end_take 2 is_xdigit t

or_itself : (c : ℕ) (t : List ℕ) (o : Byte) → Ends t o → IsEnd t (unwrap_or o (c, t)).1
or_itself c t None h = end_itself t
or_itself c t (Some x) h = h

escape_ends : (t : List ℕ) → Ends t (escape_at t)
unfolding escape_from
escape_ends [] = rw (escape_is []) tt
escape_ends (c ∷ t) = rw (escape_is (c ∷ t)) (go (c == 10) (within 48 55 c) (c == 120))
  where
    go : (b d e : Bool) → Ends (c ∷ t) (if b then None else if d then octal_at (c ∷ t) else if e then Some (unwrap_or (hexadecimal_at t) (c, t)) else Some (simple_escape c, t))
    go true d e = tt
    go false true e = octal_ends (c ∷ t)
    go false false true = end_next c t _ (or_itself c t (hexadecimal_at t) (hexadecimal_ends t))
    go false false false = end_next c t t (end_itself t)

byte_ends : (t : List ℕ) → Ends t (byte_with escape_at t)
byte_ends [] = tt
byte_ends (c ∷ t) = go (c == 10) (c == 92)
  where
    go : (b d : Bool) → Ends (c ∷ t) (if b then None else if d then escape_at t else Some (c, t))
    go true d = tt
    go false true = weaker (c ∷ t) t (escape_at t) (end_next c t t (end_itself t)) (escape_ends t)
    go false false = end_next c t t (end_itself t)

range_ends : (lo : ℕ) (t : List ℕ) → Ends t (range_at lo t)
range_ends lo t = first (bracketed_at t) refl (bracketed_ends t)
  where
    first : (o : Found) → ◌≡◌ {A = Found} (bracketed_at t) o → Ends t o → Ends t (range_at lo t)
    first None e h = rw (range_of_bytes lo t e) (follows t (byte_with escape_at t) _ (byte_ends t) (λ x k. k))
    first (Some x) e h = rw (range_of_bracket lo t x e) h

after_low : (t : List ℕ) (lo : ℕ) (rest : List ℕ) → IsEnd t rest → Ends t (if is_range rest then range_at lo (drop 1 rest) else Some (span lo lo, rest))
after_low t lo rest h = go (is_range rest)
  where
    go : (b : Bool) → Ends t (if b then range_at lo (drop 1 rest) else Some (span lo lo, rest))
    go true = weaker t (drop 1 rest) (range_at lo (drop 1 rest)) (end_then t rest _ h (end_drop 1 rest)) (range_ends lo (drop 1 rest))
    go false = h

element_ends : (t : List ℕ) → Ends t (element_at t)
element_ends t = first (bracketed_at t) refl (bracketed_ends t)
  where
    first : (o : Found) → ◌≡◌ {A = Found} (bracketed_at t) o → Ends t o → Ends t (element_at t)
    first None e h = rw (element_of_byte t e) (follows t (byte_with escape_at t) _ (byte_ends t) (λ x k. after_low t x.0 x.1 k))
    first (Some x) e h = rw (element_of_bracket t x e) h

pub element_rest : (t rest : List ℕ) (e : Element) → ◌≡◌ {A = Found} (element_at t) (Some (e, rest)) → IsEnd t rest
element_rest t rest e h = let P : Found → Type 0 = λ f. Ends t f in subst P h (element_ends t)

pub byte_rest : (t rest : List ℕ) (b : ℕ) → ◌≡◌ {A = Byte} (byte_with escape_at t) (Some (b, rest)) → IsEnd t rest
byte_rest t rest b h = let P : Byte → Type 0 = λ f. Ends t f in subst P h (byte_ends t)

-- Stops.

abbrev rest_of : ℕ → List ℕ → Bool → List ℕ
rest_of c t b = let both : List ℕ × List ℕ = if b then (c ∷ (take_up_to (length t) inside t).0, (take_up_to (length t) inside t).1) else ([], c ∷ t) in both.1

stop_here : (c : ℕ) (t : List ℕ) → inside c ≡ false → stop_of (c ∷ t) ≡ c ∷ t
unfolding take_up_to
stop_here c t h = ap (rest_of c t) h

stop_on : (c : ℕ) (t : List ℕ) → inside c ≡ true → stop_of (c ∷ t) ≡ stop_of t
unfolding take_up_to
stop_on c t h = ap (rest_of c t) h

-- an end that begins no later than the stop has the same stop
pub stop_kept : (t u : List ℕ) → IsEnd t u → length (stop_of t) ≤ length u → stop_of u ≡ stop_of t
stop_kept t u ([], e) h = ap stop_of (sym e)
stop_kept t u (c ∷ front, e) h = go (λ k. stop_kept (front ++ u) u (front, refl) k) (inside c) refl
  where
    go : (length (stop_of (front ++ u)) ≤ length u → stop_of u ≡ stop_of (front ++ u)) → (b : Bool) → inside c ≡ b → stop_of u ≡ stop_of t
    go kept true k =
        let here : stop_of t ≡ stop_of (front ++ u) = ap stop_of e ∙ stop_on c (front ++ u) k in
        let few : length (stop_of (front ++ u)) ≤ length u = omega (arith, ap length here) in
        kept few ∙ sym here
    go kept false k =
        let here : stop_of t ≡ c ∷ front ++ u = ap stop_of e ∙ stop_here c (front ++ u) k in
        absurd (omega (arith, ap length here, length-append front u))

-- after a word of two bytes that are no stops, the stop is the same
pub word_stop : (a b : ℕ) (t u : List ℕ) → inside a ≡ true → inside b ≡ true → after_word (a ∷ b ∷ []) t ≡ Some u → stop_of u ≡ stop_of t
word_stop a b t u h k e =
    let begins_so = begun (a ∷ b ∷ []) t u e in
    let whole : t ≡ a ∷ b ∷ drop 2 t = (starts_is Decides-eqb t (a ∷ b ∷ []) true (sym begins_so.0)).0 refl in
    let there : t ≡ a ∷ b ∷ u = whole ∙ ap (λ x. a ∷ b ∷ x) begins_so.1 in
    sym (ap stop_of there ∙ stop_on a (b ∷ u) h ∙ stop_on b u k)

-- the text is cut at its stop
split_at : (n : ℕ) (p : ℕ → Bool) (t : List ℕ)
    → ◌≡◌ {A = List ℕ × List ℕ} (take_up_to n p t) (take (length t - length (take_up_to n p t).1) t, drop (length t - length (take_up_to n p t).1) t)
unfolding take_up_to
split_at zero p t = let e : length t - length t ≡ 0 = omega arith in rw e refl
split_at (suc n) p [] = refl
split_at (suc n) p (c ∷ t) = go (split_at n p t) (p c)
  where
    more : List ℕ × List ℕ
    more = take_up_to n p t

    cut : (k : ℕ) → length (c ∷ t) - length more.1 ≡ suc k → ◌≡◌ {A = List ℕ × List ℕ} more (take k t, drop k t)
        → ◌≡◌ {A = List ℕ × List ℕ} (c ∷ more.0, more.1) (take (length (c ∷ t) - length more.1) (c ∷ t), drop (length (c ∷ t) - length more.1) (c ∷ t))
    cut k e h = rw e (ap (λ (x : List ℕ × List ℕ). (c ∷ x.0, x.1)) h)

    go : ◌≡◌ {A = List ℕ × List ℕ} more (take (length t - length more.1) t, drop (length t - length more.1) t)
        → (b : Bool) → (let r : List ℕ × List ℕ = if b then (c ∷ more.0, more.1) else ([], c ∷ t) in
        ◌≡◌ {A = List ℕ × List ℕ} r (take (length (c ∷ t) - length r.1) (c ∷ t), drop (length (c ∷ t) - length r.1) (c ∷ t)))
    go h true = cut (length t - length more.1) (let h = take_up_to_within n p t in omega arith) h
    go h false = let e : length (c ∷ t) - length (c ∷ t) ≡ 0 = omega arith in rw e refl

pub cut_at_stop : (t s : List ℕ) → s ≡ stop_of t
    → ◌≡◌ {A = List ℕ × List ℕ} (take_up_to (length t) inside t) (take (length t - length s) t, drop (length t - length s) t)
cut_at_stop t s e = rw e (split_at (length t) inside t)

pub stop_within : (t s : List ℕ) → s ≡ stop_of t → length s ≤ length t
stop_within t s e = omega (arith, ap length e, take_up_to_within (length t) inside t)

-- What is known of a stop further on.

known_on : (t u s : List ℕ) → s ≡ stop_of t → IsEnd t u → length s ≤ length u → s ≡ stop_of u
known_on t u s e end h = e ∙ sym (stop_kept t u end (omega (arith, ap length e)))

pub element_known : (t rest s : List ℕ) (x : Element) → s ≡ stop_of t → ◌≡◌ {A = Found} (element_at t) (Some (x, rest)) → length s ≤ length rest → s ≡ stop_of rest
element_known t rest s x e f h = known_on t rest s e (element_rest t rest x f) h

pub member_known : (t rest s : List ℕ) (x : ByteSet) → s ≡ stop_of t → ◌≡◌ {A = Option (ByteSet × List ℕ)} (member_at t) (Some (x, rest)) → length s ≤ length rest → s ≡ stop_of rest
member_known t rest s x e f h = known_on t rest s e (go (element_at t) (element_ends t) f) h
  where
    inner : (y : Element × List ℕ) (o : Option ByteSet) → IsEnd t y.1 → ◌≡◌ {A = Option (ByteSet × List ℕ)} (o >>= λ u. Some (u, y.1)) (Some (x, rest)) → IsEnd t rest
    inner y None k g = cc
    inner y (Some u) k g =
        let same : y.1 ≡ rest = ap (λ (o : Option (ByteSet × List ℕ)). elim o [ Some z ↦ z.1 | None ↦ y.1 ]) g in
        let P : List ℕ → Type 0 = λ v. IsEnd t v in subst P same k

    go : (o : Found) → Ends t o → ◌≡◌ {A = Option (ByteSet × List ℕ)} (o >>= λ (e, r). e >>= λ u. Some (u, r)) (Some (x, rest)) → IsEnd t rest
    go None k g = cc
    go (Some y) k g = inner y y.0 k g

pub range_known : (t rest after s : List ℕ) (low c : ℕ) → s ≡ stop_of t → ◌≡◌ {A = Byte} (byte_with escape_at t) (Some (low, rest)) → rest ≡ c ∷ after → length s ≤ length after → s ≡ stop_of after
range_known t rest after s low c e f g h =
    known_on t after s e (end_then t rest after (byte_rest t rest low f) (c ∷ [], g)) h
