-- The action of a rule by the steps of the code that reads it: what each of its readers answers. Actions says the same
-- by its grammar.
use Rattle.std.specs.Prelude.{◌≡◌, ℕ, zero, suc, Bool, true, false, ◌&&◌, ◌==◌, nat_le, if◌then◌else◌, List, [], ◌∷◌, ◌++◌, Option, Some, None, codes, min}
use Rattle.lex_semantics.specs.ByteSets.{same_bytes, within}
use Rattle.lex_semantics.specs.Reading.{◌>>=◌, Reader, IsReadAs, value}
use Rattle.lex_semantics.specs.Legal.{ends_last, are_compatible}
use Rattle.lexspec_actions.specs.Names.{Scope}
use Rattle.lexspec_actions.specs.Actions.{are_few}
use Rattle.lexspec_actions.specs.Bytes.{after_spaces, expect, literal_at}
use Rattle.lexspec_actions.specs.ByteSteps.{digits_at}
use Rattle.lexre_bytes.specs.Lexical.{name_at}
use Rattle.lex_semantics.specs.Spec.{EndAction, Statement, Echo, Print, Begin, More, Less, Reject, End, Push, Pop}
use Rattle.lexspec_actions.specs.Statements.{then_all}
use Rattle.lex_semantics.specs.Limits.{max_kept, max_status}
use Rattle.lexre_bytes.specs.Limits.{number_cap}

-- what a statement says: something that is done, a literal, or a literal, the text, and a literal
pub data Said : Type 0 where
  does : Statement → Said
  prints : List ℕ → Said
  prints_text : List ℕ → List ℕ → Said

-- a byte before the parts
abbrev pub onto : ℕ → Option (List ℕ × Option (List ℕ)) → Option (List ℕ × Option (List ℕ))
onto c None = None
onto c (Some parts) = Some (c ∷ parts.0, parts.1)

-- a `%s` before what has none
abbrev pub split : Option (List ℕ × Option (List ℕ)) → Option (List ℕ × Option (List ℕ))
split None = None
split (Some (front, None)) = Some ([], Some front)
split (Some (front, Some back)) = None

-- the parts of a format round its `%s`, where it has one: `%%` is a percent sign, and no other `%` may stand
abbrev pub parts_in : Bool → List ℕ → Option (List ℕ × Option (List ℕ))
parts_in false [] = Some ([], None)
parts_in true [] = None
parts_in false (c ∷ t) = if c == 37 then parts_in true t else onto c (parts_in false t)
parts_in true (c ∷ t) =
    if c == 37 then onto 37 (parts_in false t) else if c == 115 then split (parts_in false t) else None

unfoldable pub parts_of : List ℕ → Option (List ℕ × Option (List ℕ))
parts_of text = parts_in false text

-- what `printf` of a format without `%s` says, and of one with it
abbrev pub without_text : List ℕ × Option (List ℕ) → Option Said
without_text (front, None) = Some (prints front)
without_text (front, Some back) = None

abbrev pub with_text : List ℕ × Option (List ℕ) → Option Said
with_text (front, None) = None
with_text (front, Some back) = Some (prints_text front back)

-- the word, where that comes next
unfoldable pub this_word : List ℕ → List ℕ → Option (List ℕ)
this_word word t = name_at (after_spaces t) >>= λ (name, rest). if same_bytes name word then Some rest else None

-- `()`
unfoldable pub no_argument : List ℕ → Option (List ℕ)
no_argument t = expect (codes "(") t >>= λ inside. expect (codes ")") inside

-- `(n)`
unfoldable pub number_argument : Reader ℕ
number_argument t =
    expect (codes "(") t >>= λ inside. digits_at (after_spaces inside) >>= λ (digits, rest). expect (codes ")") rest >>=
    λ after. Some (value 10 digits, after)

-- `, word)`
unfoldable pub second_word : List ℕ → List ℕ → Option (List ℕ)
second_word word t = expect (codes ",") t >>= λ rest. this_word word rest >>= λ rest. expect (codes ")") rest

-- after the string of a `printf`
unfoldable pub formatted_at : List ℕ → Reader Said
formatted_at text t = parts_of text >>= λ parts. elim (expect (codes ")") t) [
  | Some after ↦ without_text parts >>= λ s. Some (s, after)
  | None ↦ second_word (codes "yytext") t >>= λ after. with_text parts >>= λ s. Some (s, after)
]

-- after `printf`
unfoldable pub printf_at : Reader Said
printf_at t = expect (codes "(") t >>= λ inside. literal_at inside >>= λ (text, rest). formatted_at text rest

-- after `fputs`
unfoldable pub fputs_at : Reader Said
fputs_at t =
    expect (codes "(") t >>= λ inside. literal_at inside >>= λ (text, rest). second_word (codes "yyout") rest >>=
    λ after. Some (prints text, after)

-- after `puts`
unfoldable pub puts_at : Reader Said
puts_at t =
    expect (codes "(") t >>= λ inside. literal_at inside >>= λ (text, rest). expect (codes ")") rest >>= λ after. Some
    (prints (text ++ 10 ∷ []), after)

-- after `yymore`, `yyterminate`, `yyless`, `yy_pop_state` and `exit`
unfoldable pub yymore_at : Reader Said
yymore_at t = no_argument t >>= λ rest. Some (does More, rest)

unfoldable pub yyterminate_at : Reader Said
yyterminate_at t = no_argument t >>= λ rest. Some (does (End 0), rest)

unfoldable pub yyless_at : Reader Said
yyless_at t = number_argument t >>= λ (n, rest). if within 1 max_kept n then Some (does (Less n), rest) else None

unfoldable pub pop_at : Reader Said
pop_at t = no_argument t >>= λ rest. Some (does Pop, rest)

unfoldable pub exit_at : Reader Said
exit_at t = number_argument t >>= λ (n, rest). if nat_le n max_status then Some (does (End n), rest) else None

abbrev pub capped : ℕ × List ℕ → ℕ × List ℕ
capped found = (min number_cap found.0, found.1)

-- what an action is made of
pub data Piece : Type 0 where
  semicolon : Piece
  opens : Piece
  closes : Piece
  says : Said → Piece

abbrev pub may_end : List ℕ → Bool
may_end [] = true
may_end (c ∷ t) = c == 125

-- the `;` of a statement, which may be absent before `}` and at the end
unfoldable pub after_statement : List ℕ → Option (List ℕ)
after_statement t = elim (expect (codes ";") t) [
  | Some rest ↦ Some rest
  | None ↦ if may_end (after_spaces t) then Some t else None
]

-- each brace that is opened is closed, n of them having been opened before
abbrev pub are_balanced : ℕ → List Piece → Bool
are_balanced n [] = n == 0
are_balanced n (opens ∷ ps) = are_balanced (suc n) ps
are_balanced zero (closes ∷ ps) = false
are_balanced (suc n) (closes ∷ ps) = are_balanced n ps
are_balanced n (semicolon ∷ ps) = are_balanced n ps
are_balanced n (says s ∷ ps) = are_balanced n ps

abbrev pub said_by : Said → List Statement
said_by (does s) = s ∷ []
said_by (prints bs) = Print bs ∷ []
said_by (prints_text front back) = Print front ∷ Echo ∷ Print back ∷ []

abbrev pub statements_of : List Piece → List Statement
statements_of [] = []
statements_of (says s ∷ ps) = said_by s ++ statements_of ps
statements_of (semicolon ∷ ps) = statements_of ps
statements_of (opens ∷ ps) = statements_of ps
statements_of (closes ∷ ps) = statements_of ps

-- only blanks, newlines and comments are left
abbrev pub NoPiece : List ℕ → Type 0
NoPiece t = after_spaces t ≡ []

-- `condition` has the number of each condition's name
module _ (condition : List ℕ → Option ℕ) where
  -- a condition: its name, or `0`
  unfoldable pub condition_at : Reader ℕ
  condition_at t = elim (name_at (after_spaces t)) [
    | Some found ↦ condition found.0 >>= λ c. Some (c, found.1)
    | None ↦ digits_at (after_spaces t) >>= λ (digits, rest). if same_bytes digits (codes "0") then Some (0, rest)
        else None
  ]

  -- a condition, and `)`
  unfoldable pub closed_condition : Reader ℕ
  closed_condition t = condition_at t >>= λ (c, rest). expect (codes ")") rest >>= λ after. Some (c, after)

  abbrev pub begins : Option (ℕ × List ℕ) → Option (Said × List ℕ)
  begins None = None
  begins (Some found) = Some (does (Begin found.0), found.1)

  -- after `BEGIN`, by what follows a `(` there
  abbrev pub begin_from : List ℕ → Option (List ℕ) → Option (Said × List ℕ)
  begin_from t (Some inside) = begins (closed_condition inside)
  begin_from t None = begins (condition_at t)

  unfoldable pub begin_at : Reader Said
  begin_at t = begin_from t (expect (codes "(") t)

  abbrev pub pushes : Option (ℕ × List ℕ) → Option (Said × List ℕ)
  pushes None = None
  pushes (Some found) = Some (does (Push found.0), found.1)

  -- after `yy_push_state`, by what follows a `(` there
  abbrev pub push_from : Option (List ℕ) → Option (Said × List ℕ)
  push_from (Some inside) = pushes (closed_condition inside)
  push_from None = None

  unfoldable pub push_at : Reader Said
  push_at t = push_from (expect (codes "(") t)

  -- the statements of the stack, by their first word
  unfoldable pub stack_word : List ℕ → Reader Said
  stack_word word t =
      if same_bytes word (codes "yy_push_state") then push_at t
      else if same_bytes word (codes "yy_pop_state") then pop_at t
      else None

module _ (known : Scope) where
  -- the statements, by their first word
  unfoldable pub after_word : List ℕ → Reader Said
  after_word word t =
      if same_bytes word (codes "ECHO") then Some (does Echo, t)
      else if same_bytes word (codes "REJECT") then Some (does Reject, t)
      else if same_bytes word (codes "BEGIN") then begin_at known.number t
      else if same_bytes word (codes "yymore") then yymore_at t
      else if same_bytes word (codes "yyless") then yyless_at t
      else if same_bytes word (codes "yyterminate") then yyterminate_at t
      else if same_bytes word (codes "exit") then exit_at t
      else if same_bytes word (codes "printf") then printf_at t
      else if same_bytes word (codes "fputs") then fputs_at t
      else if same_bytes word (codes "puts") then puts_at t
      else if known.stack then stack_word known.number word t
      else None

  unfoldable pub statement_at : Reader Said
  statement_at t =
      name_at t >>= λ (word, rest). after_word word rest >>= λ (s, after). after_statement after >>= λ last. Some
      (s, last)

  unfoldable pub piece_from : Reader Piece
  piece_from [] = None
  piece_from (c ∷ t) =
      if c == 59 then Some (semicolon, t)
      else if c == 123 then Some (opens, t)
      else if c == 125 then Some (closes, t)
      else (statement_at (c ∷ t) >>= λ (s, rest). Some (says s, rest))

  abbrev pub piece_at : Reader Piece
  piece_at t = piece_from (after_spaces t)

  -- the text is an action, and these are its statements in normal form
  abbrev pub SpellsStatements : List ℕ → List Statement → Type 0
  SpellsStatements text ss =
      (ps : List Piece) × IsReadAs piece_at NoPiece text ps × (are_balanced 0 ps ≡ true)
      × (ss ≡ then_all [] (statements_of ps))

-- what an `<<EOF>>` rule does with these statements
abbrev pub end_of : List Statement → Option EndAction
end_of [] = Some (record { print = []; status = 0 })
end_of (Print bs ∷ []) = Some (record { print = bs; status = 0 })
end_of (End n ∷ []) = Some (record { print = []; status = n })
end_of (Print bs ∷ End n ∷ []) = Some (record { print = bs; status = n })
end_of _ = None

-- an end action, where no statements stand before it
abbrev pub alone : List Statement → EndAction → Option EndAction
alone [] e = Some e
alone (s ∷ ss) e = None

-- the statements may be the action of a rule
abbrev pub may_stand : List Statement → Bool
may_stand ss = are_few ss && ends_last ss && are_compatible ss
