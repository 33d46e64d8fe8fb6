-- What the statements of a text name is in range.
use Rattle.std.proofs.Common.{◌≡◌, ℕ, suc, ◌+◌, ◌≤◌, ◌<◌, ◌==◌, Bool, true, false, List, [], ◌∷◌, ◌++◌, length, Option, Some, None, IfSome, if◌then◌else◌, refl, subst, arith}
use Rattle.std.specs.Prelude.{codes, ◌&&◌, nat_le, nat_lt}
use Rattle.std.proofs.lemmas.Bool.{and_parts, and_from, lt-ltb}
use Rattle.lex_semantics.specs.Spec.{Statement, Print}
use Rattle.lex_semantics.specs.Legal.{in_range}
use Rattle.lex_semantics.specs.ByteSets.{same_bytes, within}
use Rattle.lex_semantics.specs.Reading.{◌>>=◌, IsReadAs}
use Rattle.lexspec_actions.specs.Names.{number_from, Scope}
use Rattle.lexspec_actions.specs.Bytes.{expect, literal_at, after_spaces}
use Rattle.lexspec_actions.specs.ByteSteps.{digits_at}
use Rattle.lexre_bytes.specs.Lexical.{name_at}
use Rattle.lexspec_actions.specs.ActionSteps.{Said, does, prints, prints_text, said_by, Piece, semicolon, opens, closes, says, statements_of, NoPiece, no_argument, number_argument, second_word, parts_of, without_text, with_text, formatted_at, printf_at, fputs_at, puts_at, yymore_at, yyless_at, yyterminate_at, exit_at, condition_at, closed_condition, begins, begin_from, begin_at, pushes, push_from, push_at, pop_at, stack_word, after_word, after_statement, statement_at, piece_from, piece_at}
use Rattle.lex_semantics.specs.Limits.{max_kept, max_status}

-- as `in_range`, but that a literal may be empty
abbrev pub raw : ℕ → Statement → Bool
raw n (Print bs) = true
raw n s = in_range n s

abbrev pub all_raw : ℕ → List Statement → Bool
all_raw n [] = true
all_raw n (s ∷ ss) = raw n s && all_raw n ss

pub all_raw_append : (n : ℕ) (a b : List Statement) → all_raw n a ≡ true → all_raw n b ≡ true → all_raw n (a ++ b) ≡ true
all_raw_append n [] b h k = k
all_raw_append n (s ∷ a) b h k =
    let both = and_parts (raw n s) (all_raw n a) h in
    and_from (raw n s) (all_raw n (a ++ b)) both.0 (all_raw_append n a b both.1 k)

-- what is read where reading goes on

if_bind : {A B : Type 0} (P : B → Type 0) (x : Option A) (f : A → Option B) → ((a : A) → x ≡ Some a → IfSome (f a) P) → IfSome (x >>= f) P
if_bind P None f h = tt
if_bind P (Some a) f h = h a refl

if_chosen : {B : Type 0} (P : B → Type 0) (b : Bool) (x y : Option B) → (b ≡ true → IfSome x P) → (b ≡ false → IfSome y P) → IfSome (if b then x else y) P
if_chosen P true x y h k = h refl
if_chosen P false x y h k = k refl

some_of : {B : Type 0} (P : B → Type 0) (o : Option B) (y : B) → IfSome o P → o ≡ Some y → P y
some_of P o y h e = subst (λ z. IfSome z P) e h

abbrev Good : ℕ → Said × List ℕ → Type 0
Good n x = all_raw n (said_by x.0) ≡ true

abbrev Numbered : ℕ → ℕ × List ℕ → Type 0
Numbered n x = x.0 < n

parts_good : (n : ℕ) (parts : List ℕ × Option (List ℕ)) (after : List ℕ) → IfSome (without_text parts >>= λ s. Some (s, after)) (Good n)
parts_good n (front, None) after = refl
parts_good n (front, Some back) after = tt

text_good : (n : ℕ) (parts : List ℕ × Option (List ℕ)) (after : List ℕ) → IfSome (with_text parts >>= λ s. Some (s, after)) (Good n)
text_good n (front, None) after = tt
text_good n (front, Some back) after = refl

formatted_good : (n : ℕ) (text t : List ℕ) → IfSome (formatted_at text t) (Good n)
unfolding formatted_at
formatted_good n text t = if_bind (Good n) (parts_of text) _ (λ parts e. from parts (expect (codes ")") t))
  where
    from : (parts : List ℕ × Option (List ℕ)) (o : Option (List ℕ)) → IfSome (elim o [
      | Some after ↦ without_text parts >>= λ s. Some (s, after)
      | None ↦ second_word (codes "yytext") t >>= λ after. with_text parts >>= λ s. Some (s, after)
    ]) (Good n)
    from parts (Some after) = parts_good n parts after
    from parts None = if_bind (Good n) (second_word (codes "yytext") t) _ (λ after e. text_good n parts after)

printf_good : (n : ℕ) (t : List ℕ) → IfSome (printf_at t) (Good n)
unfolding printf_at
printf_good n t = if_bind (Good n) (expect (codes "(") t) _ (λ inside e. if_bind (Good n) (literal_at inside) _ (λ found e. formatted_good n found.0 found.1))

fputs_good : (n : ℕ) (t : List ℕ) → IfSome (fputs_at t) (Good n)
unfolding fputs_at
fputs_good n t = if_bind (Good n) (expect (codes "(") t) _ (λ inside e. if_bind (Good n) (literal_at inside) _ (λ found e. if_bind (Good n) (second_word (codes "yyout") found.1) _ (λ after e. refl)))

puts_good : (n : ℕ) (t : List ℕ) → IfSome (puts_at t) (Good n)
unfolding puts_at
puts_good n t = if_bind (Good n) (expect (codes "(") t) _ (λ inside e. if_bind (Good n) (literal_at inside) _ (λ found e. if_bind (Good n) (expect (codes ")") found.1) _ (λ after e. refl)))

yymore_good : (n : ℕ) (t : List ℕ) → IfSome (yymore_at t) (Good n)
unfolding yymore_at
yymore_good n t = if_bind (Good n) (no_argument t) _ (λ rest e. refl)

yyterminate_good : (n : ℕ) (t : List ℕ) → IfSome (yyterminate_at t) (Good n)
unfolding yyterminate_at
yyterminate_good n t = if_bind (Good n) (no_argument t) _ (λ rest e. refl)

pop_good : (n : ℕ) (t : List ℕ) → IfSome (pop_at t) (Good n)
unfolding pop_at
pop_good n t = if_bind (Good n) (no_argument t) _ (λ rest e. refl)

yyless_good : (n : ℕ) (t : List ℕ) → IfSome (yyless_at t) (Good n)
unfolding yyless_at
yyless_good n t = if_bind (Good n) (number_argument t) _ (λ found e. if_chosen (Good n) (within 1 max_kept found.0) _ _ (λ h. and_from (within 1 max_kept found.0) true h refl) (λ h. tt))

exit_good : (n : ℕ) (t : List ℕ) → IfSome (exit_at t) (Good n)
unfolding exit_at
exit_good n t = if_bind (Good n) (number_argument t) _ (λ found e. if_chosen (Good n) (nat_le found.0 max_status) _ _ (λ h. and_from (nat_le found.0 max_status) true h refl) (λ h. tt))

-- a name's number is below the count of names
pub number_below : (k : ℕ) (names : List (List ℕ)) (name : List ℕ) → IfSome (number_from k names name) (λ c. c < k + length names)
number_below k [] name = tt
number_below k (a ∷ names) name = if_chosen (λ c. c < k + suc (length names)) (same_bytes a name) (Some k) (number_from (suc k) names name)
    (λ h. omega arith)
    (λ h. later (number_from (suc k) names name) (number_below (suc k) names name))
  where
    later : (o : Option ℕ) → IfSome o (λ c. c < suc k + length names) → IfSome o (λ c. c < k + suc (length names))
    later None h = tt
    later (Some c) h = omega (arith, h)

module _ (condition : List ℕ → Option ℕ) (n : ℕ) (some : 1 ≤ n) (below : (name : List ℕ) → IfSome (condition name) (λ c. c < n)) where
  condition_good : (t : List ℕ) → IfSome (condition_at condition t) (Numbered n)
  unfolding condition_at
  condition_good t = from (name_at (after_spaces t))
    where
      from : (o : Option (List ℕ × List ℕ)) → IfSome (elim o [
        | Some found ↦ condition found.0 >>= λ c. Some (c, found.1)
        | None ↦ digits_at (after_spaces t) >>= λ (digits, rest). if same_bytes digits (codes "0") then Some (0, rest) else None
      ]) (Numbered n)
      from (Some found) = if_bind (Numbered n) (condition found.0) _ (λ c e. some_of (λ i. i < n) (condition found.0) c (below found.0) e)
      from None = if_bind (Numbered n) (digits_at (after_spaces t)) _ (λ found e. if_chosen (Numbered n) (same_bytes found.0 (codes "0")) _ _ (λ h. omega (arith, some)) (λ h. tt))

  closed_good : (t : List ℕ) → IfSome (closed_condition condition t) (Numbered n)
  unfolding closed_condition
  closed_good t = if_bind (Numbered n) (condition_at condition t) _ (λ found e.
      if_bind (Numbered n) (expect (codes ")") found.1) _ (λ after e'. some_of (Numbered n) (condition_at condition t) found (condition_good t) e))

  begins_good : (o : Option (ℕ × List ℕ)) → IfSome o (Numbered n) → IfSome (begins condition o) (Good n)
  begins_good None h = tt
  begins_good (Some found) h = and_from (nat_lt found.0 n) true (lt-ltb found.0 n h) refl

  begin_good : (t : List ℕ) → IfSome (begin_at condition t) (Good n)
  unfolding begin_at
  begin_good t = from (expect (codes "(") t)
    where
      from : (o : Option (List ℕ)) → IfSome (begin_from condition t o) (Good n)
      from (Some inside) = begins_good (closed_condition condition inside) (closed_good inside)
      from None = begins_good (condition_at condition t) (condition_good t)

  pushes_good : (o : Option (ℕ × List ℕ)) → IfSome o (Numbered n) → IfSome (pushes condition o) (Good n)
  pushes_good None h = tt
  pushes_good (Some found) h = and_from (nat_lt found.0 n) true (lt-ltb found.0 n h) refl

  push_good : (t : List ℕ) → IfSome (push_at condition t) (Good n)
  unfolding push_at
  push_good t = from (expect (codes "(") t)
    where
      from : (o : Option (List ℕ)) → IfSome (push_from condition o) (Good n)
      from (Some inside) = pushes_good (closed_condition condition inside) (closed_good inside)
      from None = tt

  stack_good : (word t : List ℕ) → IfSome (stack_word condition word t) (Good n)
  unfolding stack_word
  stack_good word t =
      if_chosen (Good n) (same_bytes word (codes "yy_push_state")) _ _ (λ h. push_good t) (λ h.
      if_chosen (Good n) (same_bytes word (codes "yy_pop_state")) _ _ (λ h. pop_good n t) (λ h. tt))

module _ (known : Scope) (n : ℕ) (some : 1 ≤ n) (below : (name : List ℕ) → IfSome (known.number name) (λ c. c < n)) where
  word_good : (word t : List ℕ) → IfSome (after_word known word t) (Good n)
  unfolding after_word
  word_good word t =
      if_chosen (Good n) (same_bytes word (codes "ECHO")) _ _ (λ h. refl) (λ h.
      if_chosen (Good n) (same_bytes word (codes "REJECT")) _ _ (λ h. refl) (λ h.
      if_chosen (Good n) (same_bytes word (codes "BEGIN")) _ _ (λ h. begin_good known.number n some below t) (λ h.
      if_chosen (Good n) (same_bytes word (codes "yymore")) _ _ (λ h. yymore_good n t) (λ h.
      if_chosen (Good n) (same_bytes word (codes "yyless")) _ _ (λ h. yyless_good n t) (λ h.
      if_chosen (Good n) (same_bytes word (codes "yyterminate")) _ _ (λ h. yyterminate_good n t) (λ h.
      if_chosen (Good n) (same_bytes word (codes "exit")) _ _ (λ h. exit_good n t) (λ h.
      if_chosen (Good n) (same_bytes word (codes "printf")) _ _ (λ h. printf_good n t) (λ h.
      if_chosen (Good n) (same_bytes word (codes "fputs")) _ _ (λ h. fputs_good n t) (λ h.
      if_chosen (Good n) (same_bytes word (codes "puts")) _ _ (λ h. puts_good n t) (λ h.
      if_chosen (Good n) known.stack _ _ (λ h. stack_good known.number n some below word t) (λ h. tt)))))))))))

  statement_good : (t : List ℕ) → IfSome (statement_at known t) (Good n)
  unfolding statement_at
  statement_good t = if_bind (Good n) (name_at t) _ (λ name e. if_bind (Good n) (after_word known name.0 name.1) _ (λ said e'.
      if_bind (Good n) (after_statement said.1) _ (λ last e''. some_of (Good n) (after_word known name.0 name.1) said (word_good name.0 name.1) e')))

  abbrev GoodPiece : Piece × List ℕ → Type 0
  GoodPiece x = all_raw n (statements_of (x.0 ∷ [])) ≡ true

  piece_good : (t : List ℕ) → IfSome (piece_from known t) GoodPiece
  unfolding piece_from
  piece_good [] = tt
  piece_good (c ∷ t) =
      if_chosen GoodPiece (c == 59) _ _ (λ h. refl) (λ h.
      if_chosen GoodPiece (c == 123) _ _ (λ h. refl) (λ h.
      if_chosen GoodPiece (c == 125) _ _ (λ h. refl) (λ h.
      if_bind GoodPiece (statement_at known (c ∷ t)) _ (λ said e.
      all_raw_append n (said_by said.0) [] (some_of (Good n) (statement_at known (c ∷ t)) said (statement_good (c ∷ t)) e) refl))))

  piece_before : (p : Piece) (ps : List Piece) → all_raw n (statements_of (p ∷ [])) ≡ true → all_raw n (statements_of ps) ≡ true → all_raw n (statements_of (p ∷ ps)) ≡ true
  piece_before semicolon ps h k = k
  piece_before opens ps h k = k
  piece_before closes ps h k = k
  piece_before (says s) ps h k = all_raw_append n (said_by s) (statements_of ps) (without s h) k
    where
      without : (s : Said) → all_raw n (said_by s ++ []) ≡ true → all_raw n (said_by s) ≡ true
      without (does s) h = h
      without (prints bs) h = h
      without (prints_text front back) h = h

  -- all the statements of a text
  pub cut_good : (text : List ℕ) (ps : List Piece) → IsReadAs (piece_at known) NoPiece text ps → all_raw n (statements_of ps) ≡ true
  cut_good text [] done = refl
  cut_good text (p ∷ ps) (rest, here, cut) =
      piece_before p ps (some_of GoodPiece (piece_from known (after_spaces text)) (p, rest) (piece_good (after_spaces text)) here) (cut_good rest ps cut)
