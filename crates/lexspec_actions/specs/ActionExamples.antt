-- Worked examples of actions, each with the statements that it spells. The conditions are INITIAL and A.
use Rattle.std.specs.Prelude.{ℕ, Bool, true, false, List, [], ◌∷◌, codes}
use Rattle.lex_semantics.specs.Spec.{EndAction, Statement, Echo, Print, Begin, More, Less, Reject, End, Push, Pop}
use Rattle.lexspec_actions.specs.Names.{Scope, known_in}
use Rattle.lexspec_actions.specs.Actions.{SpellsAction, SpellsEndAction}

abbrev pub known : Bool → Scope
known stack = known_in (codes "INITIAL" ∷ codes "A" ∷ []) stack

abbrev pub Says : List ℕ → List Statement → Type 0
Says text ss = SpellsAction (known false) text ss

abbrev pub SaysNothing : List ℕ → Type 0
SaysNothing text = (ss : List Statement) → SpellsAction (known false) text ss → ⊥

-- each statement
pub record EachStatement : Type 0 where
  pub echo : Says (codes "ECHO;") (Echo ∷ [])
  pub reject : Says (codes "REJECT;") (Reject ∷ [])
  pub begin : Says (codes "BEGIN(A);") (Begin 1 ∷ [])
  pub begin_zero : Says (codes "BEGIN 0;") (Begin 0 ∷ [])
  pub more : Says (codes "yymore();") (More ∷ [])
  pub less : Says (codes "yyless(2);") (Less 2 ∷ [])
  pub terminate : Says (codes "yyterminate();") (End 0 ∷ [])
  pub exit : Says (codes "exit(63);") (End 63 ∷ [])
  pub printf : Says (codes "printf(\"[%s]\", yytext);") (Print (codes "[") ∷ Echo ∷ Print (codes "]") ∷ [])
  pub fputs : Says (codes "fputs(\"\\101\\x42\\n\", yyout);") (Print (codes "AB\n") ∷ [])
  pub puts : Says (codes "puts(\"a\");") (Print (codes "a\n") ∷ [])
  pub push : SpellsAction (known true) (codes "yy_push_state(A);") (Push 1 ∷ [])
  pub pop : SpellsAction (known true) (codes "yy_pop_state();") (Pop ∷ [])

-- nothing; literals in a row, with braces and a comment; a semicolon that is absent at the end; a comment to the end of
-- its line, and one that is not closed; a format with nothing beside its text, and one with a percent sign before it
pub record SeveralStatements : Type 0 where
  pub none : Says (codes " ;") []
  pub joined : Says (codes "{ puts(\"a\"); /* b */ printf(\"%%c\") }") (Print (codes "a\n%c") ∷ [])
  pub last : Says (codes "ECHO; REJECT") (Echo ∷ Reject ∷ [])
  pub line_comment : Says (codes "ECHO; // }\n") (Echo ∷ [])
  pub open_comment : Says (codes "ECHO; /* }") (Echo ∷ [])
  pub text_alone : Says (codes "printf(\"%s\", yytext);") (Echo ∷ [])
  pub percent_before_text : Says (codes "printf(\"%%%s\", yytext);") (Print (codes "%") ∷ Echo ∷ [])

-- a status above 63; no byte kept; a condition by a number that is not 0; a sign of printf's that is none of these, two
-- texts, and one without its argument; a NUL by an escape, and escapes that C has not; a brace that stays open;
-- something after the end; no semicolon between statements; two of yyless, yymore and REJECT, each of which says what
-- becomes of the text; a statement of the stack without the option
pub record NoActions : Type 0 where
  pub status : SaysNothing (codes "exit(64);")
  pub kept : SaysNothing (codes "yyless(0);")
  pub format : SaysNothing (codes "printf(\"%d\");")
  pub number : SaysNothing (codes "BEGIN(1);")
  pub text_twice : SaysNothing (codes "printf(\"%s%s\", yytext);")
  pub no_text : SaysNothing (codes "printf(\"%s\");")
  pub unknown_escape : SaysNothing (codes "puts(\"\\q\");")
  pub no_digit : SaysNothing (codes "puts(\"\\x\");")
  pub nul : SaysNothing (codes "puts(\"\\0\");")
  pub brace : SaysNothing (codes "{ ECHO;")
  pub after_end : SaysNothing (codes "exit(1); ECHO;")
  pub no_semicolon : SaysNothing (codes "ECHO ECHO;")
  pub less_twice : SaysNothing (codes "yyless(1); yyless(2);")
  pub less_and_more : SaysNothing (codes "yyless(1); yymore();")
  pub less_and_reject : SaysNothing (codes "yyless(1); REJECT;")
  pub more_and_reject : SaysNothing (codes "yymore(); REJECT;")
  pub after_reject : SaysNothing (codes "REJECT; ECHO;")
  pub stack : SaysNothing (codes "yy_pop_state();")

-- An end action prints, and ends the scan, with status 0 where it says none. It has no ECHO.
pub record EndActions : Type 0 where
  pub ends : SpellsEndAction (known false) (codes "puts(\"a\"); exit(3);") (record { print = codes "a\n"; status = 3 })
  pub without_status : SpellsEndAction (known false) (codes "puts(\"a\");") (record { print = codes "a\n"; status = 0 })
  pub echo : (e : EndAction) → SpellsEndAction (known false) (codes "ECHO;") e → ⊥
