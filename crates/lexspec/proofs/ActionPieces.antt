-- An action by the pieces of C is what it is byte by byte.
use Rattle.std.proofs.Common.{◌≡◌, ℕ, zero, suc, ◌-◌, ◌<◌, ◌==◌, ◌&&◌, ◌||◌, false, if◌then◌else◌, List, [], ◌∷◌, ◌++◌, length, take, drop, Option, Some, None, ◌⊎◌, inl, inr, refl, sym, ap, subst, ◌∙◌, arith, length-append}
use Rattle.std.specs.Prelude.{codes, slice_get}
use Rattle.std.proofs.lemmas.Bool.{ne_eqb}
use Rattle.std.proofs.lemmas.List.{append_assoc, take_at}
use Rattle.lex_semantics.specs.Active.{contains}
use Rattle.lex_semantics.specs.Escapes.{byte_with, until_quote}
use Rattle.lex_semantics.specs.Reading.{◌>>=◌, take_up_to}
use Rattle.lexspec_lines.specs.Runs.{split_before}
use Rattle.lexspec_lines.proofs.TextLaws.{Other, decide}
use Rattle.lexspec_actions.specs.Comments.{after_star}
use Rattle.lexspec_actions.specs.ByteSteps.{slash, block, star, line, after_byte}
use Rattle.lexspec.specs.ActionSteps.{ActionPlace, code, string, escaped, outside, action_in, with_byte}
use Rattle.lexspec.specs.Items.{after_string, after_piece, action_end, action_at}
use Rattle.lexspec.proofs.ActionLaws.{at_outside, with_front}

abbrev Split : Type 0
Split = List ℕ × List ℕ

front_one : (c : ℕ) (front : List ℕ) (o : Option Split) → with_byte c (with_front front o) ≡ with_front (c ∷ front) o
front_one c front None = refl
front_one c front (Some x) = refl

front_none : (o : Option Split) → o ≡ with_front [] o
front_none None = refl
front_none (Some x) = refl

-- a piece of which the bytes at the place p are the last ones, up to a text
abbrev Passed : ActionPlace → ℕ → List ℕ → Option (List ℕ) → Type 0
Passed p n t None = ◌≡◌ {A = Option Split} (action_in p n t) None
Passed p n t (Some u) = (front : List ℕ) × (t ≡ front ++ u) × (action_in p n t ≡ with_front front (action_in outside n u))

more : (c n : ℕ) (p q : ActionPlace) (t : List ℕ) (o : Option (List ℕ)) → action_in q n (c ∷ t) ≡ with_byte c (action_in p n t) → Passed p n t o → Passed q n (c ∷ t) o
more c n p q t None e h = e ∙ ap (with_byte c) h
more c n p q t (Some u) e (front, is, found) = (c ∷ front, ap (λ z. c ∷ z) is, e ∙ ap (with_byte c) found ∙ front_one c front (action_in outside n u))

done : (n : ℕ) (p : ActionPlace) (t : List ℕ) → action_in p n t ≡ action_in outside n t → Passed p n t (Some t)
done n p t e = ([], refl, e ∙ front_none (action_in outside n t))

last : (c n : ℕ) (p : ActionPlace) (t : List ℕ) → action_in p n (c ∷ t) ≡ with_byte c (action_in outside n t) → Passed p n (c ∷ t) (Some t)
last c n p t e = more c n outside p t (Some t) e (done n outside t refl)

-- strings

at_string : (n c : ℕ) (t : List ℕ) → action_in string n (c ∷ t) ≡ (if c == 10 then None else with_byte c (action_in (if c == 34 then outside else if c == 92 then escaped else string) n t))
at_string zero c t = refl
at_string (suc n) c t = refl

at_escaped : (n c : ℕ) (t : List ℕ) → action_in escaped n (c ∷ t) ≡ (if c == 10 then None else with_byte c (action_in string n t))
at_escaped zero c t = refl
at_escaped (suc n) c t = refl

string_open : (n : ℕ) → ◌≡◌ {A = Option Split} (action_in string n []) None
string_open zero = refl
string_open (suc n) = refl

escaped_open : (n : ℕ) → ◌≡◌ {A = Option Split} (action_in escaped n []) None
escaped_open zero = refl
escaped_open (suc n) = refl

-- a byte of a string, or a backslash and any byte but a newline
abbrev byte_at : List ℕ → Option (ℕ × List ℕ)
byte_at t = byte_with (λ u. slice_get u 0 >>= λ c. if contains (codes "\n") c then None else Some (c, drop 1 u)) t

abbrev rest_of : Option Split → Option (List ℕ)
rest_of o = o >>= λ (bytes, rest). Some rest

same_rest : (b : ℕ) (o : Option Split) → rest_of (o >>= λ (bs, after). Some (b ∷ bs, after)) ≡ rest_of o
same_rest b None = refl
same_rest b (Some x) = refl

strings : (k n : ℕ) (t : List ℕ) → length t < k → Passed string n t (rest_of (until_quote byte_at k t))
unfolding until_quote
strings zero n t h = absurd (omega arith)
strings (suc k) n [] h = string_open n
strings (suc k) n (c ∷ t) h = from (λ r m. strings k n r m) (decide 34 c) (decide 10 c) (decide 92 c)
  where
    Later : Type 0
    Later = (r : List ℕ) → length r < k → Passed string n r (rest_of (until_quote byte_at k r))

    slashed : Later → (t : List ℕ) → length t < k → Passed string n (92 ∷ t) (rest_of (until_quote byte_at (suc k) (92 ∷ t)))
    slashed later [] h = at_string n 92 [] ∙ ap (with_byte 92) (escaped_open n)
    slashed later (d ∷ r) h = after (later r (omega arith)) (decide 10 d)
      where
        after : Passed string n r (rest_of (until_quote byte_at k r)) → (10 ≡ d) ⊎ Other 10 d → Passed string n (92 ∷ d ∷ r) (rest_of (until_quote byte_at (suc k) (92 ∷ d ∷ r)))
        after one (inl e) = subst (λ z. Passed string n (92 ∷ z ∷ r) (rest_of (until_quote byte_at (suc k) (92 ∷ z ∷ r)))) e (at_string n 92 (10 ∷ r) ∙ ap (with_byte 92) (at_escaped n 10 r))
        after one (inr e) =
            let passed : Passed string n (92 ∷ d ∷ r) (rest_of (until_quote byte_at k r)) =
            more 92 n escaped string (d ∷ r) _ (at_string n 92 (d ∷ r)) (more d n string escaped r _ (at_escaped n d r ∙ ap (λ b. if b then None else with_byte d (action_in string n r)) e.1) one) in
            let read : rest_of (until_quote byte_at (suc k) (92 ∷ d ∷ r)) ≡ rest_of (until_quote byte_at k r) =
            ap (λ b. rest_of ((if b || false then None else Some (d, r)) >>= λ (b, rest). until_quote byte_at k rest >>= λ (bs, after). Some (b ∷ bs, after))) e.0 ∙ same_rest d (until_quote byte_at k r) in
            subst (Passed string n (92 ∷ d ∷ r)) (sym read) passed

    from : Later → (34 ≡ c) ⊎ Other 34 c → (10 ≡ c) ⊎ Other 10 c → (92 ≡ c) ⊎ Other 92 c → Passed string n (c ∷ t) (rest_of (until_quote byte_at (suc k) (c ∷ t)))
    from later (inl e) newline back = subst (λ z. Passed string n (z ∷ t) (rest_of (until_quote byte_at (suc k) (z ∷ t)))) e (last 34 n string t (at_string n 34 t))
    from later (inr q) (inl e) back = subst (λ z. Passed string n (z ∷ t) (rest_of (until_quote byte_at (suc k) (z ∷ t)))) e (at_string n 10 t)
    from later (inr q) (inr l) (inl e) = subst (λ z. Passed string n (z ∷ t) (rest_of (until_quote byte_at (suc k) (z ∷ t)))) e (slashed later t (omega arith))
    from later (inr q) (inr l) (inr b) =
        let step : action_in string n (c ∷ t) ≡ with_byte c (action_in string n t) = at_string n c t ∙ rw (l.1, q.1, b.1) refl in
        let read : rest_of (until_quote byte_at (suc k) (c ∷ t)) ≡ rest_of (until_quote byte_at k t) = rw (q.1, l.1, b.1) (same_rest c (until_quote byte_at k t)) in
        subst (Passed string n (c ∷ t)) (sym read) (more c n string string t _ step (later t (omega arith)))

-- comments

at_block : (n c : ℕ) (t : List ℕ) → action_in (code block) n (c ∷ t) ≡ with_byte c (action_in (code (if c == 42 then star else block)) n t)
at_block zero c t = refl
at_block (suc n) c t = refl

at_star : (n c : ℕ) (t : List ℕ) → action_in (code star) n (c ∷ t) ≡ with_byte c (action_in (code (after_byte star c)) n t)
at_star zero c t = refl
at_star (suc n) c t = refl

block_open : (n : ℕ) → (◌≡◌ {A = Option Split} (action_in (code block) n []) None) × (◌≡◌ {A = Option Split} (action_in (code star) n []) None)
block_open zero = (refl, refl)
block_open (suc n) = (refl, refl)

blocks : (n : ℕ) (t : List ℕ) → Passed (code block) n t (after_star t) × Passed (code star) n t (after_star (42 ∷ t))
blocks n [] = block_open n
blocks n (c ∷ t) = let later = blocks n t in (inside later, starred later (decide 47 c))
  where
    Later : Type 0
    Later = Passed (code block) n t (after_star t) × Passed (code star) n t (after_star (42 ∷ t))

    inside : Later → Passed (code block) n (c ∷ t) (after_star (c ∷ t))
    inside later = from (decide 42 c)
      where
        from : (42 ≡ c) ⊎ Other 42 c → Passed (code block) n (c ∷ t) (after_star (c ∷ t))
        from (inl e) = subst (λ z. Passed (code block) n (z ∷ t) (after_star (z ∷ t))) e (more 42 n (code star) (code block) t _ (at_block n 42 t) later.1)
        from (inr e) =
            let read : after_star (c ∷ t) ≡ after_star t = rw e.0 refl in
            subst (Passed (code block) n (c ∷ t)) (sym read) (more c n (code block) (code block) t _ (at_block n c t ∙ rw e.1 refl) later.0)

    starred : Later → (47 ≡ c) ⊎ Other 47 c → Passed (code star) n (c ∷ t) (after_star (42 ∷ c ∷ t))
    starred later (inl e) = subst (λ z. Passed (code star) n (z ∷ t) (after_star (42 ∷ z ∷ t))) e (last 47 n (code star) t (at_star n 47 t))
    starred later (inr e) = subst (Passed (code star) n (c ∷ t)) (sym read) (from (decide 42 c))
      where
        read : after_star (42 ∷ c ∷ t) ≡ after_star (c ∷ t)
        read = rw e.0 refl

        from : (42 ≡ c) ⊎ Other 42 c → Passed (code star) n (c ∷ t) (after_star (c ∷ t))
        from (inl k) = subst (λ z. Passed (code star) n (z ∷ t) (after_star (z ∷ t))) k (more 42 n (code star) (code star) t _ (at_star n 42 t) later.1)
        from (inr k) =
            let read : after_star (c ∷ t) ≡ after_star t = rw k.0 refl in
            subst (Passed (code star) n (c ∷ t)) (sym read) (more c n (code block) (code star) t _ (at_star n c t ∙ rw (e.1, k.1) refl) later.0)

at_line : (n c : ℕ) (t : List ℕ) → action_in (code line) n (c ∷ t) ≡ (if c == 10 && n == 0 then Some ([], t) else with_byte c (action_in (code (after_byte line c)) n t))
at_line zero c t = refl
at_line (suc n) c t = refl

lines : (n : ℕ) (t : List ℕ) → Passed (code line) n t (Some (split_before (contains (codes "\n")) t).1)
unfolding take_up_to
lines n [] = done n (code line) [] (ends n)
  where
    ends : (n : ℕ) → action_in (code line) n [] ≡ action_in outside n []
    ends zero = refl
    ends (suc n) = refl
lines n (c ∷ t) = from (lines n t) (decide 10 c)
  where
    from : Passed (code line) n t (Some (split_before (contains (codes "\n")) t).1) → (10 ≡ c) ⊎ Other 10 c → Passed (code line) n (c ∷ t) (Some (split_before (contains (codes "\n")) (c ∷ t)).1)
    from later (inl e) = subst (λ z. Passed (code line) n (z ∷ t) (Some (split_before (contains (codes "\n")) (z ∷ t)).1)) e (done n (code line) (10 ∷ t) (at_line n 10 t ∙ sym (at_outside n 10 t)))
    from later (inr e) =
        let read : (split_before (contains (codes "\n")) (c ∷ t)).1 ≡ (split_before (contains (codes "\n")) t).1 = rw e.0 refl in
        subst (λ z. Passed (code line) n (c ∷ t) (Some z)) (sym read) (more c n (code line) (code line) t (Some (split_before (contains (codes "\n")) t).1) (at_line n c t ∙ rw e.1 refl) later)

-- whole actions

abbrev Found : ℕ → List ℕ → Option (List ℕ) → Type 0
Found n t None = ◌≡◌ {A = Option Split} (action_in outside n t) None
Found n t (Some end) = (front : List ℕ) × (t ≡ front ++ end) × ◌≡◌ {A = Option Split} (action_in outside n t) (Some (front, drop 1 end))

onto : (n m : ℕ) (front t u : List ℕ) (o : Option (List ℕ)) → t ≡ front ++ u → action_in outside n t ≡ with_front front (action_in outside m u) → Found m u o → Found n t o
onto n m front t u None is e h = e ∙ ap (with_front front) h
onto n m front t u (Some end) is e (more, same, found) = (front ++ more, is ∙ ap (λ z. front ++ z) same ∙ sym (append_assoc front more end), e ∙ ap (with_front front) found)

one : (c n m : ℕ) (t : List ℕ) (o : Option (List ℕ)) → action_in outside n (c ∷ t) ≡ with_byte c (action_in outside m t) → Found m t o → Found n (c ∷ t) o
one c n m t o e h = onto n m (c ∷ []) (c ∷ t) t o refl (e ∙ ap (with_byte c) (front_none (action_in outside m t)) ∙ front_one c [] (action_in outside m t)) h

shorter : (t front u : List ℕ) (bound : ℕ) → t ≡ front ++ u → length t < bound → length u < bound
shorter t front u bound e h = omega (arith, ap length e, length-append front u)

at_slash : (n c : ℕ) (t : List ℕ) → Other 42 c → Other 47 c → action_in (code slash) n (c ∷ t) ≡ action_in outside n (c ∷ t)
at_slash zero c t a b = rw (a.1, b.1) refl
at_slash (suc n) c t a b = rw (a.1, b.1) refl

slash_star : (n : ℕ) (t : List ℕ) → action_in (code slash) n (42 ∷ t) ≡ with_byte 42 (action_in (code block) n t)
slash_star zero t = refl
slash_star (suc n) t = refl

slash_slash : (n : ℕ) (t : List ℕ) → action_in (code slash) n (47 ∷ t) ≡ with_byte 47 (action_in (code line) n t)
slash_slash zero t = refl
slash_slash (suc n) t = refl

slash_ends : (n : ℕ) → action_in (code slash) n [] ≡ action_in outside n []
slash_ends zero = refl
slash_ends (suc n) = refl

some_open : (n : ℕ) → (suc n == 0) ≡ false
some_open n = ne_eqb (suc n) 0 (λ e. omega (arith, e))

ends_pass : (bound n : ℕ) (t : List ℕ) → length t < bound → Found n t (action_end bound n t)
unfolding action_end after_piece after_string
ends_pass zero n t h = absurd (omega arith)
ends_pass (suc bound) zero [] h = ([], refl, refl)
ends_pass (suc bound) (suc n) [] h = subst (Found (suc n) []) (sym (ap (λ b. if b then Some [] else None) (some_open n))) refl
ends_pass (suc bound) n (c ∷ t) h = from (λ m u k. ends_pass bound m u k) (decide 10 c) (decide 34 c) (decide 47 c) (decide 123 c) (decide 125 c)
  where
    Later : Type 0
    Later = (m : ℕ) (u : List ℕ) → length u < bound → Found m u (action_end bound m u)

    less : length t < bound
    less = omega arith

    newline : Later → (n : ℕ) → Found n (10 ∷ t) (action_end (suc bound) n (10 ∷ t))
    newline later zero = ([], refl, refl)
    newline later (suc n) =
        let read : action_end (suc bound) (suc n) (10 ∷ t) ≡ action_end bound (suc n) t = ap (λ b. if b then Some (10 ∷ t) else action_end bound (suc n) t) (some_open n) in
        let step : action_in outside (suc n) (10 ∷ t) ≡ with_byte 10 (action_in outside (suc n) t) =
        at_outside (suc n) 10 t ∙ ap (λ b. if b then Some ([], t) else with_byte 10 (action_in outside (suc n) t)) (some_open n) in
        subst (Found (suc n) (10 ∷ t)) (sym read) (one 10 (suc n) (suc n) t (action_end bound (suc n) t) step (later (suc n) t less))

    piece : Later → (p : ActionPlace) (c : ℕ) (t : List ℕ) (o : Option (List ℕ)) → length t < bound → action_in outside n (c ∷ t) ≡ with_byte c (action_in p n t) → Passed p n t o → Found n (c ∷ t) (o >>= action_end bound n)
    piece later p c t None k e h = e ∙ ap (with_byte c) h
    piece later p c t (Some u) k e (front, is, found) =
        onto n n (c ∷ front) (c ∷ t) u (action_end bound n u) (ap (λ z. c ∷ z) is) (e ∙ ap (with_byte c) found ∙ front_one c front (action_in outside n u)) (later n u (shorter t front u bound is k))

    slashed : Later → (t : List ℕ) → length t < bound → Found n (47 ∷ t) (action_end (suc bound) n (47 ∷ t))
    slashed later [] k = one 47 n n [] (action_end bound n []) (at_outside n 47 [] ∙ ap (with_byte 47) (slash_ends n)) (later n [] k)
    slashed later (d ∷ r) k = after (decide 42 d) (decide 47 d)
      where
        after : (42 ≡ d) ⊎ Other 42 d → (47 ≡ d) ⊎ Other 47 d → Found n (47 ∷ d ∷ r) (action_end (suc bound) n (47 ∷ d ∷ r))
        after (inl e) other =
            subst (λ d. Found n (47 ∷ d ∷ r) (action_end (suc bound) n (47 ∷ d ∷ r))) e
            (piece later (code slash) 47 (42 ∷ r) (after_star r) (omega arith) (at_outside n 47 (42 ∷ r)) (more 42 n (code block) (code slash) r (after_star r) (slash_star n r) (blocks n r).0))
        after (inr a) (inl e) =
            subst (λ d. Found n (47 ∷ d ∷ r) (action_end (suc bound) n (47 ∷ d ∷ r))) e
            (piece later (code slash) 47 (47 ∷ r) (Some (split_before (contains (codes "\n")) r).1) (omega arith) (at_outside n 47 (47 ∷ r)) (more 47 n (code line) (code slash) r (Some (split_before (contains (codes "\n")) r).1) (slash_slash n r) (lines n r)))
        after (inr a) (inr b) =
            let read : action_end (suc bound) n (47 ∷ d ∷ r) ≡ action_end bound n (d ∷ r) = rw (a.0, b.0) refl in
            subst (Found n (47 ∷ d ∷ r)) (sym read) (one 47 n n (d ∷ r) (action_end bound n (d ∷ r)) (at_outside n 47 (d ∷ r) ∙ ap (with_byte 47) (at_slash n d r a b)) (later n (d ∷ r) k))

    from : Later → (10 ≡ c) ⊎ Other 10 c → (34 ≡ c) ⊎ Other 34 c → (47 ≡ c) ⊎ Other 47 c → (123 ≡ c) ⊎ Other 123 c → (125 ≡ c) ⊎ Other 125 c → Found n (c ∷ t) (action_end (suc bound) n (c ∷ t))
    from later (inl e) q s o k = subst (λ c. Found n (c ∷ t) (action_end (suc bound) n (c ∷ t))) e (newline later n)
    from later (inr l) (inl e) s o k =
        subst (λ c. Found n (c ∷ t) (action_end (suc bound) n (c ∷ t))) e (piece later string 34 t (after_string t) less (at_outside n 34 t) (strings (suc (length t)) n t (omega arith)))
    from later (inr l) (inr q) (inl e) o k = subst (λ c. Found n (c ∷ t) (action_end (suc bound) n (c ∷ t))) e (slashed later t less)
    from later (inr l) (inr q) (inr s) (inl e) k = subst (λ c. Found n (c ∷ t) (action_end (suc bound) n (c ∷ t))) e (one 123 n (suc n) t (action_end bound (suc n) t) (at_outside n 123 t) (later (suc n) t less))
    from later (inr l) (inr q) (inr s) (inr o) (inl e) = subst (λ c. Found n (c ∷ t) (action_end (suc bound) n (c ∷ t))) e (one 125 n (n - 1) t (action_end bound (n - 1) t) (at_outside n 125 t) (later (n - 1) t less))
    from later (inr l) (inr q) (inr s) (inr o) (inr k) =
        let read : action_end (suc bound) n (c ∷ t) ≡ action_end bound n t = rw (l.0, q.0, s.0, o.0, k.0) refl in
        let step : action_in outside n (c ∷ t) ≡ with_byte c (action_in outside n t) = at_outside n c t ∙ rw (l.1, q.1, s.1, o.1, k.1) refl in
        subst (Found n (c ∷ t)) (sym read) (one c n n t (action_end bound n t) step (later n t less))

pub action_is : (t : List ℕ) → action_at t ≡ action_in outside 0 t
unfolding action_at
action_is t = from (action_end (suc (length t)) 0 t) (ends_pass (suc (length t)) 0 t (omega arith))
  where
    from : (o : Option (List ℕ)) → Found 0 t o → ◌≡◌ {A = Option Split} (o >>= λ rest. Some (take (length t - length rest) t, drop 1 rest)) (action_in outside 0 t)
    from None h = sym h
    from (Some end) (front, is, found) = ap (λ z. Some (z, drop 1 end)) text ∙ sym found
      where
        text : take (length t - length end) t ≡ front
        text = ap (take (length t - length end)) is ∙ take_at front end (length t - length end) (omega (arith, ap length is, length-append front end))

-- the first step of a reader
pub read_first : (t : List ℕ) → with_front [] (action_in outside 0 t) ≡ action_at t
read_first t = sym (front_none (action_in outside 0 t)) ∙ sym (action_is t)
