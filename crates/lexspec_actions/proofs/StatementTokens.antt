-- What a statement says by its tokens is what the code reads of it.
use Rattle.std.proofs.Common.{◌≡◌, ℕ, Bool, true, false, List, [], ◌∷◌, ◌++◌, Option, Some, None, if◌then◌else◌, refl, sym, ap, ◌∙◌, subst}
use Rattle.std.specs.Prelude.{codes, nat_le, nat_eq}
use Rattle.std.proofs.lemmas.Bool.{eqb-true, and_parts, le-leb, leb-true}
use Rattle.lex_semantics.specs.ByteSets.{same_bytes, within}
use Rattle.lex_semantics.specs.Reading.{◌>>=◌, value}
use Rattle.lex_semantics.specs.Limits.{max_kept, max_status}
use Rattle.lex_semantics.specs.Spec.{Statement, Echo, Print, Begin, More, Less, Reject, End, Push, Pop}
use Rattle.lexre_bytes.specs.Lexical.{name_at}
use Rattle.lexspec_actions.specs.Names.{Scope}
use Rattle.lexspec_actions.specs.Bytes.{after_spaces, expect, literal_at}
use Rattle.lexspec_actions.specs.ByteSteps.{digits_at, first_is}
use Rattle.lexspec_actions.specs.Actions.{Token, word, digits, string, sign, token_at, call, TellsCondition, declared, initial, States, echo, reject, begin, begin_call, more, less, terminate, exit, printf, printf_text, fputs, puts, push, pop}
use Rattle.lexspec_actions.specs.ActionSteps as S
use Rattle.lexspec_actions.specs.ActionSteps.{Said, does, prints, prints_text, said_by, parts_in, without_text, with_text, begins, pushes}
use Rattle.lexspec_actions.proofs.SameBytes.{next_is}
use Rattle.lexspec_actions.proofs.TokenLaws.{begins_so, some_is, no_some, bound, UpTo, token_reads, no_name, word_token, digits_token, string_token, left_token, right_token, comma_token}
use Rattle.lexspec_actions.proofs.FormatLaws.{Parts, plain_parts, text_parts, spelled_by}

chosen : {A : Type 0} (b : Bool) (x y : A) → (if b then Some x else None) ≡ Some y → (b ≡ true) × (x ≡ y)
chosen true x y e = (refl, some_is x y e)
chosen false x y e = no_some y e

no_true : {P : Type 0} → false ≡ true → P
no_true e = absurd (no e)
  where
    no : false ≡ true → ⊥
    no p = cc

word_is : (v w : List ℕ) → same_bytes v w ≡ true → v ≡ w
word_is [] [] h = refl
word_is [] (c ∷ w) h = no_true h
word_is (b ∷ v) [] h = no_true h
word_is (b ∷ v) (c ∷ w) h =
    let p = and_parts (nat_eq b c) (same_bytes v w) h in
    ap (λ z. z ∷ v) (eqb-true b c p.0) ∙ ap (λ z. c ∷ z) (word_is v w p.1)

by_word : {P : Type 0} (v w : List ℕ) → (v ≡ w → P) → (same_bytes v w ≡ false → P) → P
by_word {P} v w h k = from (same_bytes v w) refl
  where
    from : (b : Bool) → same_bytes v w ≡ b → P
    from true e = h (word_is v w e)
    from false e = k e

same_token : {x y : Token} {r u : List ℕ} → ◌≡◌ {A = Option (Token × List ℕ)} (Some (x, r)) (Some (y, u)) → x ≡ y
same_token {x} {y} {r} {u} k = ap (λ (z : Token × List ℕ). z.0) (some_is {X = Token × List ℕ} (x, r) (y, u) k)

-- a comma is no parenthesis
no_right : (t u : List ℕ) → expect (codes ",") t ≡ Some u → expect (codes ")") t ≡ None
no_right t u h = next_is 41 t ∙ ap (first_is 41) (begins_so 44 t u h)

-- ---- tokens to readers

number_read : (t inside rest after n : List ℕ) → expect (codes "(") t ≡ Some inside → digits_at (after_spaces inside) ≡ Some (n, rest) → expect (codes ")") rest ≡ Some after
    → S.number_argument t ≡ Some (value 10 n, after)
unfolding S.number_argument
number_read t inside rest after n a b c = rw (a, b, c) refl

empty_read : (t inside after : List ℕ) → expect (codes "(") t ≡ Some inside → expect (codes ")") inside ≡ Some after → S.no_argument t ≡ Some after
unfolding S.no_argument
empty_read t inside after a b = rw (a, b) refl

same_word : (w : List ℕ) → same_bytes w w ≡ true → (t rest : List ℕ) → name_at (after_spaces t) ≡ Some (w, rest) → S.this_word w t ≡ Some rest
unfolding S.this_word
same_word w same t rest h = rw (h, same) refl

second_read : (w : List ℕ) → same_bytes w w ≡ true → (t rest after last : List ℕ) → expect (codes ",") t ≡ Some rest → name_at (after_spaces rest) ≡ Some (w, after) → expect (codes ")") after ≡ Some last
    → S.second_word w t ≡ Some last
unfolding S.second_word
second_read w same t rest after last a b c = rw (a, same_word w same rest after b, c) refl

module _ (known : Scope) where
  -- what is read behind blanks and comments: a word, and what it says with what follows
  pub record Spoken (t r : List ℕ) (ss : List Statement) : Type 0 where
    pub name : List ℕ
    pub rest : List ℕ
    pub says : Said
    pub first : ◌≡◌ {A = Option (List ℕ × List ℕ)} (name_at (after_spaces t)) (Some (name, rest))
    pub after : ◌≡◌ {A = Option (Said × List ℕ)} (S.after_word known name rest) (Some (says, r))
    pub is : ss ≡ said_by says

  condition_read : (t r : List ℕ) (x : Token) (c : ℕ) → TellsCondition known x c → token_at t ≡ Some (x, r) → S.condition_at known.number t ≡ Some (c, r)
  unfolding S.condition_at
  condition_read t r _ _ (declared name c e) h = rw (token_reads t (word name) r h, e, S.condition_at) refl
  condition_read t r _ _ initial h = let d = token_reads t (digits (codes "0")) r h in rw (no_name (after_spaces t) (codes "0", r) d, d, S.condition_at) refl

  closed_read : (t after r : List ℕ) (x : Token) (c : ℕ) → TellsCondition known x c → token_at t ≡ Some (x, after) → expect (codes ")") after ≡ Some r → S.closed_condition known.number t ≡ Some (c, r)
  unfolding S.closed_condition
  closed_read t after r x c is h e = rw (condition_read t after x c is h, e) refl

  -- no condition begins with a parenthesis
  no_opening : (t r : List ℕ) (x : Token) (c : ℕ) → TellsCondition known x c → token_at t ≡ Some (x, r) → expect (codes "(") t ≡ None
  no_opening t r x c is h = from (expect (codes "(") t) refl
    where
      other : (inside : List ℕ) (x : Token) (d : ℕ) → TellsCondition known x d → ◌≡◌ {A = Option (Token × List ℕ)} (Some (sign (codes "("), inside)) (Some (x, r)) → ⊥
      other inside _ _ (declared name d e) k = absurd (no_word (same_token k))
        where
          no_word : sign (codes "(") ≡ word name → ⊥
          no_word p = cc
      other inside _ _ initial k = absurd (no_digits (same_token k))
        where
          no_digits : sign (codes "(") ≡ digits (codes "0") → ⊥
          no_digits p = cc

      from : (o : Option (List ℕ)) → expect (codes "(") t ≡ o → expect (codes "(") t ≡ None
      from None e = e
      from (Some inside) e = absurd (other inside x c is (sym (left_token t inside e) ∙ h))

  begin_read : (t r : List ℕ) (x : Token) (c : ℕ) → TellsCondition known x c → token_at t ≡ Some (x, r) → S.begin_at known.number t ≡ Some (does (Begin c), r)
  unfolding S.begin_at
  begin_read t r x c is h = rw (no_opening t r x c is h, condition_read t r x c is h) refl

  begin_call_read : (t inside after r : List ℕ) (x : Token) (c : ℕ) → TellsCondition known x c → expect (codes "(") t ≡ Some inside → token_at inside ≡ Some (x, after) → expect (codes ")") after ≡ Some r
      → S.begin_at known.number t ≡ Some (does (Begin c), r)
  unfolding S.begin_at
  begin_call_read t inside after r x c is a h e = rw (a, closed_read inside after r x c is h e) refl

  push_read : (t inside after r : List ℕ) (x : Token) (c : ℕ) → TellsCondition known x c → expect (codes "(") t ≡ Some inside → token_at inside ≡ Some (x, after) → expect (codes ")") after ≡ Some r
      → S.push_at known.number t ≡ Some (does (Push c), r)
  unfolding S.push_at
  push_read t inside after r x c is a h e = rw (a, closed_read inside after r x c is h e) refl

  abbrev Word : List ℕ → List ℕ → Said → List ℕ → Type 0
  Word w t s r = ◌≡◌ {A = Option (Said × List ℕ)} (S.after_word known w t) (Some (s, r))

  spoken : (w t rest r : List ℕ) (s : Said) → token_at t ≡ Some (word w, rest) → Word w rest s r → Spoken t r (said_by s)
  spoken w t rest r s e h = record { name = w; rest = rest; says = s; first = token_reads t (word w) rest e; after = h; is = refl }

  ending : (t r r' : List ℕ) (ss : List Statement) → r ≡ r' → Spoken t r ss → Spoken t r' ss
  ending t r r' ss e h = subst (λ z. Spoken t z ss) e h

  pub says_reads : (t r : List ℕ) (ts : List Token) (ss : List Statement) → States known ts ss → UpTo token_at t ts r → Spoken t r ss
  unfolding S.after_word S.yymore_at S.yyless_at S.yyterminate_at S.exit_at S.pop_at S.printf_at S.formatted_at S.parts_of S.fputs_at S.puts_at S.stack_word
  says_reads t r _ _ echo (t1, e1, end) = ending t t1 r _ end (spoken (codes "ECHO") t t1 t1 (does Echo) e1 refl)
  says_reads t r _ _ reject (t1, e1, end) = ending t t1 r _ end (spoken (codes "REJECT") t t1 t1 (does Reject) e1 refl)
  says_reads t r _ _ (begin x c is) (t1, e1, (t2, e2, end)) = ending t t2 r _ end (spoken (codes "BEGIN") t t1 t2 (does (Begin c)) e1 (begin_read t1 t2 x c is e2))
  says_reads t r _ _ (begin_call x c is) (t1, e1, (t2, e2, (t3, e3, (t4, e4, end)))) =
      ending t t4 r _ end (spoken (codes "BEGIN") t t1 t4 (does (Begin c)) e1 (begin_call_read t1 t2 t3 t4 x c is (token_reads t1 _ t2 e2) e3 (token_reads t3 _ t4 e4)))
  says_reads t r _ _ more (t1, e1, (t2, e2, (t3, e3, end))) =
      ending t t3 r _ end (spoken (codes "yymore") t t1 t3 (does More) e1 (rw (empty_read t1 t2 t3 (token_reads t1 _ t2 e2) (token_reads t2 _ t3 e3)) refl))
  says_reads t r _ _ (less n few) (t1, e1, (t2, e2, (t3, e3, (t4, e4, end)))) =
      ending t t4 r _ end (spoken (codes "yyless") t t1 t4 (does (Less (value 10 n))) e1
      (rw (number_read t1 t2 t3 t4 n (token_reads t1 _ t2 e2) (token_reads t2 _ t3 e3) (token_reads t3 _ t4 e4), few) refl))
  says_reads t r _ _ terminate (t1, e1, (t2, e2, (t3, e3, end))) =
      ending t t3 r _ end (spoken (codes "yyterminate") t t1 t3 (does (End 0)) e1 (rw (empty_read t1 t2 t3 (token_reads t1 _ t2 e2) (token_reads t2 _ t3 e3)) refl))
  says_reads t r _ _ (exit n few) (t1, e1, (t2, e2, (t3, e3, (t4, e4, end)))) =
      ending t t4 r _ end (spoken (codes "exit") t t1 t4 (does (End (value 10 n))) e1
      (rw (number_read t1 t2 t3 t4 n (token_reads t1 _ t2 e2) (token_reads t2 _ t3 e3) (token_reads t3 _ t4 e4), le-leb (value 10 n) max_status few) refl))
  says_reads t r _ _ (printf bs) (t1, e1, (t2, e2, (t3, e3, (t4, e4, end)))) =
      ending t t4 r _ end (spoken (codes "printf") t t1 t4 (prints bs) e1
      (rw (token_reads t1 _ t2 e2, token_reads t2 _ t3 e3, plain_parts bs, token_reads t3 _ t4 e4) refl))
  says_reads t r _ _ (printf_text front back) (t1, e1, (t2, e2, (t3, e3, (t4, e4, (t5, e5, (t6, e6, end)))))) =
      ending t t6 r _ end (spoken (codes "printf") t t1 t6 (prints_text front back) e1
      (rw (
        token_reads t1 _ t2 e2,
        token_reads t2 _ t3 e3,
        text_parts front back,
        no_right t3 t4 (token_reads t3 _ t4 e4),
        second_read (codes "yytext") refl t3 t4 t5 t6 (token_reads t3 _ t4 e4) (token_reads t4 _ t5 e5) (token_reads t5 _ t6 e6),
      ) refl))
  says_reads t r _ _ (fputs bs) (t1, e1, (t2, e2, (t3, e3, (t4, e4, (t5, e5, (t6, e6, end)))))) =
      ending t t6 r _ end (spoken (codes "fputs") t t1 t6 (prints bs) e1
      (rw (
        token_reads t1 _ t2 e2,
        token_reads t2 _ t3 e3,
        second_read (codes "yyout") refl t3 t4 t5 t6 (token_reads t3 _ t4 e4) (token_reads t4 _ t5 e5) (token_reads t5 _ t6 e6),
      ) refl))
  says_reads t r _ _ (puts bs) (t1, e1, (t2, e2, (t3, e3, (t4, e4, end)))) =
      ending t t4 r _ end (spoken (codes "puts") t t1 t4 (prints (bs ++ codes "\n")) e1
      (rw (token_reads t1 _ t2 e2, token_reads t2 _ t3 e3, token_reads t3 _ t4 e4) refl))
  says_reads t r _ _ (push x c may is) (t1, e1, (t2, e2, (t3, e3, (t4, e4, end)))) =
      ending t t4 r _ end (spoken (codes "yy_push_state") t t1 t4 (does (Push c)) e1
      (rw (may, push_read t1 t2 t3 t4 x c is (token_reads t1 _ t2 e2) e3 (token_reads t3 _ t4 e4)) refl))
  says_reads t r _ _ (pop may) (t1, e1, (t2, e2, (t3, e3, end))) =
      ending t t3 r _ end (spoken (codes "yy_pop_state") t t1 t3 (does Pop) e1 (rw (may, empty_read t1 t2 t3 (token_reads t1 _ t2 e2) (token_reads t2 _ t3 e3)) refl))

-- ---- readers to tokens

number_tokens : (t r : List ℕ) (n : ℕ) → ◌≡◌ {A = Option (ℕ × List ℕ)} (S.number_argument t) (Some (n, r))
    → (ds : List ℕ) × (value 10 ds ≡ n) × UpTo token_at t (sign (codes "(") ∷ digits ds ∷ sign (codes ")") ∷ []) r
unfolding S.number_argument
number_tokens t r n h =
    let (inside, a, h1) = bound (expect (codes "(") t) _ (n, r) h in
    let (found, b, h2) = bound (digits_at (after_spaces inside)) _ (n, r) h1 in
    let (after, c, h3) = bound (expect (codes ")") found.1) _ (n, r) h2 in
    let same = some_is {X = ℕ × List ℕ} (value 10 found.0, after) (n, r) h3 in (
      found.0,
      ap (λ (z : ℕ × List ℕ). z.0) same,
      (inside, left_token t inside a, (found.1, digits_token inside found.0 found.1 b, (after, right_token found.1 after c, ap (λ (z : ℕ × List ℕ). z.1) same))),
    )

empty_tokens : (t r : List ℕ) → S.no_argument t ≡ Some r → UpTo token_at t (sign (codes "(") ∷ sign (codes ")") ∷ []) r
unfolding S.no_argument
empty_tokens t r h =
    let (inside, a, b) = bound (expect (codes "(") t) _ r h in
    (inside, left_token t inside a, (r, right_token inside r b, refl))

this_token : (w t r : List ℕ) → S.this_word w t ≡ Some r → token_at t ≡ Some (word w, r)
unfolding S.this_word
this_token w t r h =
    let (found, a, h1) = bound (name_at (after_spaces t)) _ r h in
    let both = chosen (same_bytes found.0 w) found.1 r h1 in
    word_token t found.0 found.1 a ∙ ap (λ (z : List ℕ). Some (word z, found.1)) (word_is found.0 w both.0) ∙ ap (λ (z : List ℕ). Some (word w, z)) both.1

second_tokens : (w t r : List ℕ) → S.second_word w t ≡ Some r → UpTo token_at t (sign (codes ",") ∷ word w ∷ sign (codes ")") ∷ []) r
unfolding S.second_word
second_tokens w t r h =
    let (rest, a, h1) = bound (expect (codes ",") t) _ r h in
    let (after, b, c) = bound (S.this_word w rest) _ r h1 in
    (rest, comma_token t rest a, (after, this_token w rest after b, (r, right_token after r c, refl)))

module _ (known : Scope) where
  condition_token : (t r : List ℕ) (c : ℕ) → ◌≡◌ {A = Option (ℕ × List ℕ)} (S.condition_at known.number t) (Some (c, r)) → (x : Token) × TellsCondition known x c × (token_at t ≡ Some (x, r))
  unfolding S.condition_at
  condition_token t r c h = from (name_at (after_spaces t)) refl h
    where
      tested : (ds rest : List ℕ) → digits_at (after_spaces t) ≡ Some (ds, rest) → (b : Bool) → same_bytes ds (codes "0") ≡ b → ◌≡◌ {A = Option (ℕ × List ℕ)} (if b then Some (0, rest) else None) (Some (c, r))
          → (x : Token) × TellsCondition known x c × (token_at t ≡ Some (x, r))
      tested ds rest e false f k = no_some {X = ℕ × List ℕ} (c, r) k
      tested ds rest e true f k =
          let same = some_is {X = ℕ × List ℕ} (0, rest) (c, r) k in
          let zero : ds ≡ codes "0" = word_is ds (codes "0") f in (
            digits ds,
            subst (λ (z : List ℕ). TellsCondition known (digits z) c) (sym zero) (subst (λ (n : ℕ). TellsCondition known (digits (codes "0")) n) (ap (λ (z : ℕ × List ℕ). z.0) same) initial),
            digits_token t ds rest e ∙ ap (λ (z : ℕ × List ℕ). Some (digits ds, z.1)) same,
          )

      from : (o : Option (List ℕ × List ℕ)) → name_at (after_spaces t) ≡ o → ◌≡◌ {A = Option (ℕ × List ℕ)} (elim o [
        | Some found ↦ known.number found.0 >>= λ c. Some (c, found.1)
        | None ↦ digits_at (after_spaces t) >>= λ (number, rest). if same_bytes number (codes "0") then Some (0, rest) else None
      ]) (Some (c, r)) → (x : Token) × TellsCondition known x c × (token_at t ≡ Some (x, r))
      from (Some found) e k =
          let (n, a, k1) = bound (known.number found.0) _ (c, r) k in
          let same = some_is {X = ℕ × List ℕ} (n, found.1) (c, r) k1 in (
            word found.0,
            declared found.0 c (a ∙ ap (λ (z : ℕ × List ℕ). Some z.0) same),
            word_token t found.0 found.1 e ∙ ap (λ (z : ℕ × List ℕ). Some (word found.0, z.1)) same,
          )
      from None e k =
          let (found, b, k1) = bound (digits_at (after_spaces t)) _ (c, r) k in
          tested found.0 found.1 b (same_bytes found.0 (codes "0")) refl k1

  abbrev Closed : List ℕ → ℕ → List ℕ → Type 0
  Closed t c r = (x : Token) × TellsCondition known x c × UpTo token_at t (x ∷ sign (codes ")") ∷ []) r

  closed_tokens : (t r : List ℕ) (c : ℕ) → ◌≡◌ {A = Option (ℕ × List ℕ)} (S.closed_condition known.number t) (Some (c, r)) → Closed t c r
  unfolding S.closed_condition
  closed_tokens t r c h =
      let (found, a, h1) = bound (S.condition_at known.number t) _ (c, r) h in
      let (after, b, h2) = bound (expect (codes ")") found.1) _ (c, r) h1 in
      let same = some_is {X = ℕ × List ℕ} (found.0, after) (c, r) h2 in
      subst (λ (z : ℕ × List ℕ). Closed t z.0 z.1) same (let (x, is, e) = condition_token t found.1 found.0 a in (x, is, (found.1, e, (after, right_token found.1 after b, refl))))

  -- what stands behind the first word of a statement
  abbrev After : List ℕ → List ℕ → Said × List ℕ → Type 0
  After w t z = (ts : List Token) × UpTo token_at t ts z.1 × States known (word w ∷ ts) (said_by z.0)

  abbrev Found : Option (Said × List ℕ) → Said × List ℕ → Type 0
  Found o z = ◌≡◌ {A = Option (Said × List ℕ)} o (Some z)

  so : (w t : List ℕ) (y z : Said × List ℕ) → Found (Some y) z → After w t y → After w t z
  so w t y z e h = subst (After w t) (some_is {X = Said × List ℕ} y z e) h

  empty_after : (w t : List ℕ) (s : Statement) (z : Said × List ℕ) → States known (call w []) (s ∷ []) → Found (S.no_argument t >>= λ rest. Some (does s, rest)) z → After w t z
  empty_after w t s z says h =
      let (r, a, h1) = bound (S.no_argument t) _ z h in
      so w t (does s, r) z h1 (sign (codes "(") ∷ sign (codes ")") ∷ [], empty_tokens t r a, says)

  less_after : (t : List ℕ) (z : Said × List ℕ) → Found (S.yyless_at t) z → After (codes "yyless") t z
  unfolding S.yyless_at
  less_after t z h =
      let (found, a, h1) = bound (S.number_argument t) _ z h in
      let few = chosen {A = Said × List ℕ} (within 1 max_kept found.0) (does (Less found.0), found.1) z h1 in
      let (ds, is, cut) = number_tokens t found.1 found.0 a in
      subst (After (codes "yyless") t) few.1 (
        sign (codes "(") ∷ digits ds ∷ sign (codes ")") ∷ [],
        cut,
        subst (λ (n : ℕ). States known (call (codes "yyless") (digits ds ∷ [])) (Less n ∷ [])) is (less ds (ap (within 1 max_kept) is ∙ few.0)),
      )

  exit_after : (t : List ℕ) (z : Said × List ℕ) → Found (S.exit_at t) z → After (codes "exit") t z
  unfolding S.exit_at
  exit_after t z h =
      let (found, a, h1) = bound (S.number_argument t) _ z h in
      let few = chosen {A = Said × List ℕ} (nat_le found.0 max_status) (does (End found.0), found.1) z h1 in
      let (ds, is, cut) = number_tokens t found.1 found.0 a in
      subst (After (codes "exit") t) few.1 (
        sign (codes "(") ∷ digits ds ∷ sign (codes ")") ∷ [],
        cut,
        subst (λ (n : ℕ). States known (call (codes "exit") (digits ds ∷ [])) (End n ∷ [])) is (exit ds (leb-true (value 10 ds) max_status (ap (λ n. nat_le n max_status) is ∙ few.0))),
      )

  fputs_after : (t : List ℕ) (z : Said × List ℕ) → Found (S.fputs_at t) z → After (codes "fputs") t z
  unfolding S.fputs_at
  fputs_after t z h =
      let (inside, a, h1) = bound (expect (codes "(") t) _ z h in
      let (found, b, h2) = bound (literal_at inside) _ z h1 in
      let (after, c, h3) = bound (S.second_word (codes "yyout") found.1) _ z h2 in
      so (codes "fputs") t (prints found.0, after) z h3 (
        sign (codes "(") ∷ string found.0 ∷ sign (codes ",") ∷ word (codes "yyout") ∷ sign (codes ")") ∷ [],
        (inside, left_token t inside a, (found.1, string_token inside found.0 found.1 b, second_tokens (codes "yyout") found.1 after c)),
        fputs found.0,
      )

  puts_after : (t : List ℕ) (z : Said × List ℕ) → Found (S.puts_at t) z → After (codes "puts") t z
  unfolding S.puts_at
  puts_after t z h =
      let (inside, a, h1) = bound (expect (codes "(") t) _ z h in
      let (found, b, h2) = bound (literal_at inside) _ z h1 in
      let (after, c, h3) = bound (expect (codes ")") found.1) _ z h2 in
      so (codes "puts") t (prints (found.0 ++ codes "\n"), after) z h3 (
        sign (codes "(") ∷ string found.0 ∷ sign (codes ")") ∷ [],
        (inside, left_token t inside a, (found.1, string_token inside found.0 found.1 b, (after, right_token found.1 after c, refl))),
        puts found.0,
      )

  formatted : (inside text rest t : List ℕ) (parts : Parts) (z : Said × List ℕ) → token_at t ≡ Some (sign (codes "("), inside) → token_at inside ≡ Some (string text, rest) → parts_in false text ≡ Some parts
      → (o : Option (List ℕ)) → expect (codes ")") rest ≡ o → Found (elim o [
        | Some after ↦ without_text parts >>= λ s. Some (s, after)
        | None ↦ S.second_word (codes "yytext") rest >>= λ after. with_text parts >>= λ s. Some (s, after)
      ]) z → After (codes "printf") t z
  formatted inside text rest t (front, Some back) z a b p (Some after) e h = no_some z h
  formatted inside text rest t (front, None) z a b p (Some after) e h = so (codes "printf") t (prints front, after) z h (
    sign (codes "(") ∷ string text ∷ sign (codes ")") ∷ [],
    (inside, a, (rest, b, (after, right_token rest after e, refl))),
    subst (λ (x : List ℕ). States known (call (codes "printf") (string x ∷ [])) (Print front ∷ [])) (sym (spelled_by false text front None p)) (printf front),
  )
  formatted inside text rest t (front, None) z a b p None e h = let (after, c, h1) = bound (S.second_word (codes "yytext") rest) _ z h in no_some z h1
  formatted inside text rest t (front, Some back) z a b p None e h =
      let (after, c, h1) = bound (S.second_word (codes "yytext") rest) _ z h in
      so (codes "printf") t (prints_text front back, after) z h1 (
        sign (codes "(") ∷ string text ∷ sign (codes ",") ∷ word (codes "yytext") ∷ sign (codes ")") ∷ [],
        (inside, a, (rest, b, second_tokens (codes "yytext") rest after c)),
        subst (λ (x : List ℕ). States known (call (codes "printf") (string x ∷ sign (codes ",") ∷ word (codes "yytext") ∷ [])) (Print front ∷ Echo ∷ Print back ∷ []))
            (sym (spelled_by false text front (Some back) p)) (printf_text front back),
      )

  printf_after : (t : List ℕ) (z : Said × List ℕ) → Found (S.printf_at t) z → After (codes "printf") t z
  unfolding S.printf_at S.formatted_at S.parts_of
  printf_after t z h =
      let (inside, a, h1) = bound (expect (codes "(") t) _ z h in
      let (found, b, h2) = bound (literal_at inside) _ z h1 in
      let (parts, p, h3) = bound (parts_in false found.0) _ z h2 in
      formatted inside found.0 found.1 t parts z (left_token t inside a) (string_token inside found.0 found.1 b) p (expect (codes ")") found.1) refl h3

  begin_after : (t : List ℕ) (z : Said × List ℕ) → Found (S.begin_at known.number t) z → After (codes "BEGIN") t z
  unfolding S.begin_at
  begin_after t z h = from (expect (codes "(") t) refl h
    where
      bare : (o : Option (ℕ × List ℕ)) → S.condition_at known.number t ≡ o → Found (begins known.number o) z → After (codes "BEGIN") t z
      bare None e k = no_some z k
      bare (Some found) e k =
          let (x, is, token) = condition_token t found.1 found.0 e in
          so (codes "BEGIN") t (does (Begin found.0), found.1) z k (x ∷ [], (found.1, token, refl), begin x found.0 is)

      closed : (inside : List ℕ) → expect (codes "(") t ≡ Some inside → (o : Option (ℕ × List ℕ)) → S.closed_condition known.number inside ≡ o → Found (begins known.number o) z → After (codes "BEGIN") t z
      closed inside a None e k = no_some z k
      closed inside a (Some found) e k =
          let (x, is, cut) = closed_tokens inside found.1 found.0 e in
          so (codes "BEGIN") t (does (Begin found.0), found.1) z k (sign (codes "(") ∷ x ∷ sign (codes ")") ∷ [], (inside, left_token t inside a, cut), begin_call x found.0 is)

      from : (o : Option (List ℕ)) → expect (codes "(") t ≡ o → Found (S.begin_from known.number t o) z → After (codes "BEGIN") t z
      from None e k = bare (S.condition_at known.number t) refl k
      from (Some inside) e k = closed inside e (S.closed_condition known.number inside) refl k

  push_after : (t : List ℕ) (z : Said × List ℕ) → known.stack ≡ true → Found (S.push_at known.number t) z → After (codes "yy_push_state") t z
  unfolding S.push_at
  push_after t z may h = from (expect (codes "(") t) refl h
    where
      closed : (inside : List ℕ) → expect (codes "(") t ≡ Some inside → (o : Option (ℕ × List ℕ)) → S.closed_condition known.number inside ≡ o → Found (pushes known.number o) z → After (codes "yy_push_state") t z
      closed inside a None e k = no_some z k
      closed inside a (Some found) e k =
          let (x, is, cut) = closed_tokens inside found.1 found.0 e in
          so (codes "yy_push_state") t (does (Push found.0), found.1) z k (sign (codes "(") ∷ x ∷ sign (codes ")") ∷ [], (inside, left_token t inside a, cut), push x found.0 may is)

      from : (o : Option (List ℕ)) → expect (codes "(") t ≡ o → Found (S.push_from known.number o) z → After (codes "yy_push_state") t z
      from None e k = no_some z k
      from (Some inside) e k = closed inside e (S.closed_condition known.number inside) refl k

  stack_after : (t : List ℕ) (z : Said × List ℕ) (w : List ℕ) → (known.stack ≡ true → Found (S.stack_word known.number w t) z → After w t z) → (b : Bool) → known.stack ≡ b
      → Found (if b then S.stack_word known.number w t else None) z → After w t z
  stack_after t z w k true e h = k e h
  stack_after t z w k false e h = no_some z h

  abbrev pub SpeaksAt : List ℕ → Said × List ℕ → Type 0
  SpeaksAt t z = (ts : List Token) × UpTo token_at t ts z.1 × States known ts (said_by z.0)

  pub reads_says : (t w rest : List ℕ) (z : Said × List ℕ) → name_at (after_spaces t) ≡ Some (w, rest) → Found (S.after_word known w rest) z → SpeaksAt t z
  unfolding S.after_word S.yymore_at S.yyterminate_at S.pop_at S.stack_word
  reads_says t w rest z name h =
      by_word w (codes "ECHO") (λ e. pick (codes "ECHO") e (λ k. so (codes "ECHO") rest (does Echo, rest) z k ([], refl, echo)))
      (λ n1. by_word w (codes "REJECT") (λ e. pick (codes "REJECT") e (λ k. so (codes "REJECT") rest (does Reject, rest) z k ([], refl, reject)))
      (λ n2. by_word w (codes "BEGIN") (λ e. pick (codes "BEGIN") e (begin_after rest z))
      (λ n3. by_word w (codes "yymore") (λ e. pick (codes "yymore") e (empty_after (codes "yymore") rest More z more))
      (λ n4. by_word w (codes "yyless") (λ e. pick (codes "yyless") e (less_after rest z))
      (λ n5. by_word w (codes "yyterminate") (λ e. pick (codes "yyterminate") e (empty_after (codes "yyterminate") rest (End 0) z terminate))
      (λ n6. by_word w (codes "exit") (λ e. pick (codes "exit") e (exit_after rest z))
      (λ n7. by_word w (codes "printf") (λ e. pick (codes "printf") e (printf_after rest z))
      (λ n8. by_word w (codes "fputs") (λ e. pick (codes "fputs") e (fputs_after rest z))
      (λ n9. by_word w (codes "puts") (λ e. pick (codes "puts") e (puts_after rest z))
      (λ n10. by_word w (codes "yy_push_state")
      (λ e. pick (codes "yy_push_state") e (stack_after rest z (codes "yy_push_state") (λ may k. push_after rest z may k) known.stack refl))
      (λ n11. by_word w (codes "yy_pop_state")
      (λ e. pick (codes "yy_pop_state") e (stack_after rest z (codes "yy_pop_state") (λ may k. empty_after (codes "yy_pop_state") rest Pop z (pop may) k) known.stack refl))
      (λ n12. other known.stack (rw (n1, n2, n3, n4, n5, n6, n7, n8, n9, n10, n11, n12) at h)))))))))))))
    where
      pick : (k : List ℕ) → w ≡ k → (Found (S.after_word known k rest) z → After k rest z) → SpeaksAt t z
      pick k e f =
          let (ts, cut, says) = f (ap (λ (v : List ℕ). S.after_word known v rest) (sym e) ∙ h) in
          (word k ∷ ts, (rest, word_token t k rest (name ∙ ap (λ (v : List ℕ). Some (v, rest)) e), cut), says)

      other : (b : Bool) → Found (if b then None else None) z → SpeaksAt t z
      other true k = no_some z k
      other false k = no_some z k
