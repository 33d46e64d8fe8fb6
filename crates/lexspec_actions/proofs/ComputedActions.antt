-- The worked examples of actions: by the grammar, and where there is none, by the pieces that are read.
use Rattle.std.proofs.Common.{◌≡◌, ℕ, Bool, true, false, List, [], ◌∷◌, ◌++◌, Option, Some, None, refl, sym, ap, ◌∙◌, subst, arith, ◌⊎◌, inl, inr}
use Rattle.std.specs.Prelude.{codes}
use Rattle.lex_semantics.specs.ByteSets.{is_alpha, is_upper, is_lower, is_alnum, is_blank, is_digit, is_xdigit}
use Rattle.lex_semantics.specs.Reading.{take_up_to, IsReadAs}
use Rattle.lex_semantics.specs.Escapes.{simple_escape, octal_at, hexadecimal_at, until_quote}
use Rattle.lex_semantics.specs.Literals.{normal}
use Rattle.lex_semantics.specs.Spec.{EndAction, Statement, Echo, Print, Begin, More, Less, Reject, End, Push, Pop}
use Rattle.lexre_bytes.specs.Lexical.{after_word, run_at, name_at, escape_at}
use Rattle.lexspec_actions.specs.Bytes.{after_space, after_spaces, expect, string_escape_at, literal_at}
use Rattle.lexspec_actions.specs.Actions.{Token, word, digits, string, sign, token_at, declared, initial, States, echo, reject, begin, begin_call, more, less, terminate, exit, printf, printf_text, fputs, puts, push, pop, none, empty, last, said, block, SpellsStatements, SpellsAction, SpellsEndAction}
use Rattle.lexspec_actions.specs.Statements.{then_all}
use Rattle.lexspec_actions.specs.ActionSteps as S
use Rattle.lexspec_actions.specs.ActionSteps.{Piece, does, says, may_stand}
use Rattle.lexspec_actions.specs.ActionExamples.{known, SaysNothing, EachStatement, SeveralStatements, NoActions, EndActions}
use Rattle.lexspec_actions.proofs.OneAction.{one_cut}
use Rattle.lexspec_actions.proofs.ActionLemmas.{no_piece}
use Rattle.lexspec_actions.proofs.GrammarLaws.{to_steps}

module _ (stack : Bool) where
  -- one statement with its semicolon
  one : (text : List ℕ) (ts : List Token) (ss : List Statement) → IsReadAs token_at (λ t. after_spaces t ≡ []) text (ts ++ sign (codes ";") ∷ []) → States (known stack) ts ss
      → SpellsStatements (known stack) text (normal (ss ++ []))
  one text ts ss cut speaks = (ts ++ sign (codes ";") ∷ [], ss ++ [], cut, said ts [] ss [] speaks none, refl)

pub each_statement : EachStatement
unfolding token_at take_up_to is_alpha is_upper is_lower is_alnum is_blank is_digit is_xdigit octal_at hexadecimal_at until_quote simple_escape after_word run_at name_at escape_at after_space after_spaces expect string_escape_at literal_at
each_statement = record {
  echo = (one false (codes "ECHO;") (word (codes "ECHO") ∷ []) (Echo ∷ []) (codes ";", refl, ([], refl, refl)) echo, refl);
  reject = (one false (codes "REJECT;") (word (codes "REJECT") ∷ []) (Reject ∷ []) (codes ";", refl, ([], refl, refl)) reject, refl);
  begin = (one false (codes "BEGIN(A);") (word (codes "BEGIN") ∷ sign (codes "(") ∷ word (codes "A") ∷ sign (codes ")") ∷ []) (Begin 1 ∷ []) (codes "(A);", refl, (codes "A);", refl, (codes ");", refl, (codes ";", refl, ([], refl, refl))))) (begin_call (word (codes "A")) 1 (declared (codes "A") 1 refl)), refl);
  begin_zero = (one false (codes "BEGIN 0;") (word (codes "BEGIN") ∷ digits (codes "0") ∷ []) (Begin 0 ∷ []) (codes " 0;", refl, (codes ";", refl, ([], refl, refl))) (begin (digits (codes "0")) 0 initial), refl);
  more = (one false (codes "yymore();") (word (codes "yymore") ∷ sign (codes "(") ∷ sign (codes ")") ∷ []) (More ∷ []) (codes "();", refl, (codes ");", refl, (codes ";", refl, ([], refl, refl)))) more, refl);
  less = (one false (codes "yyless(2);") (word (codes "yyless") ∷ sign (codes "(") ∷ digits (codes "2") ∷ sign (codes ")") ∷ []) (Less 2 ∷ []) (codes "(2);", refl, (codes "2);", refl, (codes ");", refl, (codes ";", refl, ([], refl, refl))))) (less (codes "2") refl), refl);
  terminate = (one false (codes "yyterminate();") (word (codes "yyterminate") ∷ sign (codes "(") ∷ sign (codes ")") ∷ []) (End 0 ∷ []) (codes "();", refl, (codes ");", refl, (codes ";", refl, ([], refl, refl)))) terminate, refl);
  exit = (one false (codes "exit(63);") (word (codes "exit") ∷ sign (codes "(") ∷ digits (codes "63") ∷ sign (codes ")") ∷ []) (End 63 ∷ []) (codes "(63);", refl, (codes "63);", refl, (codes ");", refl, (codes ";", refl, ([], refl, refl))))) (exit (codes "63") (omega arith)), refl);
  printf = (one false (codes "printf(\"[%s]\", yytext);") (word (codes "printf") ∷ sign (codes "(") ∷ string (codes "[%s]") ∷ sign (codes ",") ∷ word (codes "yytext") ∷ sign (codes ")") ∷ []) (Print (codes "[") ∷ Echo ∷ Print (codes "]") ∷ []) (codes "(\"[%s]\", yytext);", refl, (codes "\"[%s]\", yytext);", refl, (codes ", yytext);", refl, (codes " yytext);", refl, (codes ");", refl, (codes ";", refl, ([], refl, refl))))))) (printf_text (codes "[") (codes "]")), refl);
  fputs = (one false (codes "fputs(\"\\101\\x42\\n\", yyout);") (word (codes "fputs") ∷ sign (codes "(") ∷ string (codes "AB\n") ∷ sign (codes ",") ∷ word (codes "yyout") ∷ sign (codes ")") ∷ []) (Print (codes "AB\n") ∷ []) (codes "(\"\\101\\x42\\n\", yyout);", refl, (codes "\"\\101\\x42\\n\", yyout);", refl, (codes ", yyout);", refl, (codes " yyout);", refl, (codes ");", refl, (codes ";", refl, ([], refl, refl))))))) (fputs (codes "AB\n")), refl);
  puts = (one false (codes "puts(\"a\");") (word (codes "puts") ∷ sign (codes "(") ∷ string (codes "a") ∷ sign (codes ")") ∷ []) (Print (codes "a\n") ∷ []) (codes "(\"a\");", refl, (codes "\"a\");", refl, (codes ");", refl, (codes ";", refl, ([], refl, refl))))) (puts (codes "a")), refl);
  push = (one true (codes "yy_push_state(A);") (word (codes "yy_push_state") ∷ sign (codes "(") ∷ word (codes "A") ∷ sign (codes ")") ∷ []) (Push 1 ∷ []) (codes "(A);", refl, (codes "A);", refl, (codes ");", refl, (codes ";", refl, ([], refl, refl))))) (push (word (codes "A")) 1 refl (declared (codes "A") 1 refl)), refl);
  pop = (one true (codes "yy_pop_state();") (word (codes "yy_pop_state") ∷ sign (codes "(") ∷ sign (codes ")") ∷ []) (Pop ∷ []) (codes "();", refl, (codes ");", refl, (codes ";", refl, ([], refl, refl)))) (pop refl), refl);
}

pub several_statements : SeveralStatements
unfolding token_at take_up_to is_alpha is_upper is_lower is_alnum is_blank is_digit is_xdigit octal_at hexadecimal_at until_quote simple_escape after_word run_at name_at escape_at after_space after_spaces expect string_escape_at literal_at
several_statements = record {
  none = ((sign (codes ";") ∷ [], [], ([], refl, refl), (empty [] [] none), refl), refl);
  joined = ((sign (codes "{") ∷ word (codes "puts") ∷ sign (codes "(") ∷ string (codes "a") ∷ sign (codes ")") ∷ sign (codes ";") ∷ word (codes "printf") ∷ sign (codes "(") ∷ string (codes "%%c") ∷ sign (codes ")") ∷ sign (codes "}") ∷ [], Print (codes "a\n") ∷ Print (codes "%c") ∷ [], (codes " puts(\"a\"); /* b */ printf(\"%%c\") }", refl, (codes "(\"a\"); /* b */ printf(\"%%c\") }", refl, (codes "\"a\"); /* b */ printf(\"%%c\") }", refl, (codes "); /* b */ printf(\"%%c\") }", refl, (codes "; /* b */ printf(\"%%c\") }", refl, (codes " /* b */ printf(\"%%c\") }", refl, (codes "(\"%%c\") }", refl, (codes "\"%%c\") }", refl, (codes ") }", refl, (codes " }", refl, ([], refl, refl))))))))))), (block (word (codes "puts") ∷ sign (codes "(") ∷ string (codes "a") ∷ sign (codes ")") ∷ sign (codes ";") ∷ word (codes "printf") ∷ sign (codes "(") ∷ string (codes "%%c") ∷ sign (codes ")") ∷ []) [] (Print (codes "a\n") ∷ Print (codes "%c") ∷ []) [] (said (word (codes "puts") ∷ sign (codes "(") ∷ string (codes "a") ∷ sign (codes ")") ∷ []) (word (codes "printf") ∷ sign (codes "(") ∷ string (codes "%%c") ∷ sign (codes ")") ∷ []) (Print (codes "a\n") ∷ []) (Print (codes "%c") ∷ []) (puts (codes "a")) (last (word (codes "printf") ∷ sign (codes "(") ∷ string (codes "%%c") ∷ sign (codes ")") ∷ []) (Print (codes "%c") ∷ []) (printf (codes "%c")))) none), refl), refl);
  last = ((word (codes "ECHO") ∷ sign (codes ";") ∷ word (codes "REJECT") ∷ [], Echo ∷ Reject ∷ [], (codes "; REJECT", refl, (codes " REJECT", refl, ([], refl, refl))), (said (word (codes "ECHO") ∷ []) (word (codes "REJECT") ∷ []) (Echo ∷ []) (Reject ∷ []) echo (last (word (codes "REJECT") ∷ []) (Reject ∷ []) reject)), refl), refl);
  line_comment = ((word (codes "ECHO") ∷ sign (codes ";") ∷ [], Echo ∷ [], (codes "; // }\n", refl, (codes " // }\n", refl, refl)), (said (word (codes "ECHO") ∷ []) [] (Echo ∷ []) [] echo none), refl), refl);
  open_comment = ((word (codes "ECHO") ∷ sign (codes ";") ∷ [], Echo ∷ [], (codes "; /* }", refl, (codes " /* }", refl, refl)), (said (word (codes "ECHO") ∷ []) [] (Echo ∷ []) [] echo none), refl), refl);
  text_alone = ((word (codes "printf") ∷ sign (codes "(") ∷ string (codes "%s") ∷ sign (codes ",") ∷ word (codes "yytext") ∷ sign (codes ")") ∷ sign (codes ";") ∷ [], Print [] ∷ Echo ∷ Print [] ∷ [], (codes "(\"%s\", yytext);", refl, (codes "\"%s\", yytext);", refl, (codes ", yytext);", refl, (codes " yytext);", refl, (codes ");", refl, (codes ";", refl, ([], refl, refl))))))), (said (word (codes "printf") ∷ sign (codes "(") ∷ string (codes "%s") ∷ sign (codes ",") ∷ word (codes "yytext") ∷ sign (codes ")") ∷ []) [] (Print [] ∷ Echo ∷ Print [] ∷ []) [] (printf_text [] []) none), refl), refl);
  percent_before_text = ((word (codes "printf") ∷ sign (codes "(") ∷ string (codes "%%%s") ∷ sign (codes ",") ∷ word (codes "yytext") ∷ sign (codes ")") ∷ sign (codes ";") ∷ [], Print (codes "%") ∷ Echo ∷ Print [] ∷ [], (codes "(\"%%%s\", yytext);", refl, (codes "\"%%%s\", yytext);", refl, (codes ", yytext);", refl, (codes " yytext);", refl, (codes ");", refl, (codes ";", refl, ([], refl, refl))))))), (said (word (codes "printf") ∷ sign (codes "(") ∷ string (codes "%%%s") ∷ sign (codes ",") ∷ word (codes "yytext") ∷ sign (codes ")") ∷ []) [] (Print (codes "%") ∷ Echo ∷ Print [] ∷ []) [] (printf_text (codes "%") []) none), refl), refl);
}

nothing_first : (text : List ℕ) → S.piece_at (known false) text ≡ None → (after_spaces text ≡ [] → ⊥) → (ss : List Statement) → SpellsAction (known false) text ss → ⊥
nothing_first text nothing some ss (spells, stands) = from (to_steps (known false) text ss spells)
  where
    differ : (p : Piece) (rest : List ℕ) → ◌≡◌ {A = Option (Piece × List ℕ)} None (Some (p, rest)) → ⊥
    differ p rest e = cc

    from : S.SpellsStatements (known false) text ss → ⊥
    from ([], cut, balanced, same) = some cut
    from (p ∷ ps, (rest, here, cut), balanced, same) = differ p rest (sym nothing ∙ here)

-- a text of these pieces is no action
unlike : (text : List ℕ) (qs : List Piece) → IsReadAs (S.piece_at (known false)) S.NoPiece text qs → (S.are_balanced 0 qs ≡ true → may_stand (then_all [] (S.statements_of qs)) ≡ true → ⊥)
    → (ss : List Statement) → SpellsAction (known false) text ss → ⊥
unlike text qs is not ss (spells, stands) =
    let (ps, cut, balanced, same) = to_steps (known false) text ss spells in
    let e : ps ≡ qs = one_cut (S.piece_at (known false)) S.NoPiece (λ t p rest done here. no_piece (known false) t p rest here done) text ps qs cut is in
    let may : may_stand (then_all [] (S.statements_of ps)) ≡ true = ap may_stand (sym same) ∙ stands in
    not (subst (λ xs. S.are_balanced 0 xs ≡ true) e balanced) (subst (λ xs. may_stand (then_all [] (S.statements_of xs)) ≡ true) e may)

no_semicolon : SaysNothing (codes "ECHO ECHO;")
unfolding take_up_to is_alpha is_upper is_lower is_alnum is_blank is_digit is_xdigit octal_at hexadecimal_at until_quote simple_escape after_word run_at name_at escape_at after_space after_spaces expect string_escape_at literal_at S.piece_from S.statement_at S.after_word S.parts_of S.this_word S.no_argument S.number_argument S.second_word S.formatted_at S.printf_at S.fputs_at S.puts_at S.yymore_at S.yyterminate_at S.yyless_at S.pop_at S.exit_at S.after_statement S.condition_at S.closed_condition S.begin_at S.push_at S.stack_word
no_semicolon = nothing_first (codes "ECHO ECHO;") refl (λ e. cc)

no_stack : SaysNothing (codes "yy_pop_state();")
unfolding take_up_to is_alpha is_upper is_lower is_alnum is_blank is_digit is_xdigit octal_at hexadecimal_at until_quote simple_escape after_word run_at name_at escape_at after_space after_spaces expect string_escape_at literal_at S.piece_from S.statement_at S.after_word S.parts_of S.this_word S.no_argument S.number_argument S.second_word S.formatted_at S.printf_at S.fputs_at S.puts_at S.yymore_at S.yyterminate_at S.yyless_at S.pop_at S.exit_at S.after_statement S.condition_at S.closed_condition S.begin_at S.push_at S.stack_word
no_stack = nothing_first (codes "yy_pop_state();") refl (λ e. cc)

pub no_actions : NoActions
unfolding take_up_to is_alpha is_upper is_lower is_alnum is_blank is_digit is_xdigit octal_at hexadecimal_at until_quote simple_escape after_word run_at name_at escape_at after_space after_spaces expect string_escape_at literal_at S.piece_from S.statement_at S.after_word S.parts_of S.this_word S.no_argument S.number_argument S.second_word S.formatted_at S.printf_at S.fputs_at S.puts_at S.yymore_at S.yyterminate_at S.yyless_at S.pop_at S.exit_at S.after_statement S.condition_at S.closed_condition S.begin_at S.push_at S.stack_word
no_actions = record {
  status = nothing_first (codes "exit(64);") refl (λ e. cc);
  kept = nothing_first (codes "yyless(0);") refl (λ e. cc);
  format = nothing_first (codes "printf(\"%d\");") refl (λ e. cc);
  number = nothing_first (codes "BEGIN(1);") refl (λ e. cc);
  text_twice = nothing_first (codes "printf(\"%s%s\", yytext);") refl (λ e. cc);
  no_text = nothing_first (codes "printf(\"%s\");") refl (λ e. cc);
  unknown_escape = nothing_first (codes "puts(\"\\q\");") refl (λ e. cc);
  no_digit = nothing_first (codes "puts(\"\\x\");") refl (λ e. cc);
  nul = nothing_first (codes "puts(\"\\0\");") refl (λ e. cc);
  brace = unlike (codes "{ ECHO;") (S.opens ∷ says (does Echo) ∷ []) (codes " ECHO;", refl, ([], refl, refl)) (λ matched stands. cc);
  after_end = unlike (codes "exit(1); ECHO;") (says (does (End 1)) ∷ says (does Echo) ∷ []) (codes " ECHO;", refl, ([], refl, refl)) (λ matched stands. cc);
  no_semicolon = no_semicolon;
  less_twice = unlike (codes "yyless(1); yyless(2);") (says (does (Less 1)) ∷ says (does (Less 2)) ∷ []) (codes " yyless(2);", refl, ([], refl, refl)) (λ matched stands. cc);
  less_and_more = unlike (codes "yyless(1); yymore();") (says (does (Less 1)) ∷ says (does More) ∷ []) (codes " yymore();", refl, ([], refl, refl)) (λ matched stands. cc);
  less_and_reject = unlike (codes "yyless(1); REJECT;") (says (does (Less 1)) ∷ says (does Reject) ∷ []) (codes " REJECT;", refl, ([], refl, refl)) (λ matched stands. cc);
  more_and_reject = unlike (codes "yymore(); REJECT;") (says (does More) ∷ says (does Reject) ∷ []) (codes " REJECT;", refl, ([], refl, refl)) (λ matched stands. cc);
  after_reject = unlike (codes "REJECT; ECHO;") (says (does Reject) ∷ says (does Echo) ∷ []) (codes " ECHO;", refl, ([], refl, refl)) (λ matched stands. cc);
  stack = no_stack;
}

-- ECHO alone is no literal and no end
echo_no_end : (print : List ℕ) (status : ℕ) → Echo ∷ [] ≡ normal (Print print ∷ End status ∷ []) → ⊥
echo_no_end [] status e = cc
echo_no_end (b ∷ bs) status e = cc

echo_no_literal : (print : List ℕ) → Echo ∷ [] ≡ normal (Print print ∷ []) → ⊥
echo_no_literal [] e = cc
echo_no_literal (b ∷ bs) e = cc

echo_at_end : (e : EndAction) → SpellsEndAction (known false) (codes "ECHO;") e → ⊥
unfolding take_up_to is_alpha is_upper is_lower is_alnum is_blank is_digit is_xdigit octal_at hexadecimal_at until_quote simple_escape after_word run_at name_at escape_at after_space after_spaces expect string_escape_at literal_at S.piece_from S.statement_at S.after_word S.parts_of S.this_word S.no_argument S.number_argument S.second_word S.formatted_at S.printf_at S.fputs_at S.puts_at S.yymore_at S.yyterminate_at S.yyless_at S.pop_at S.exit_at S.after_statement S.condition_at S.closed_condition S.begin_at S.push_at S.stack_word
echo_at_end e (ss, spells, few, ends) =
    let (ps, cut, balanced, same) = to_steps (known false) (codes "ECHO;") ss spells in
    let is : IsReadAs (S.piece_at (known false)) S.NoPiece (codes "ECHO;") (says (does Echo) ∷ []) = ([], refl, refl) in
    let f : ps ≡ says (does Echo) ∷ [] = one_cut (S.piece_at (known false)) S.NoPiece (λ t p rest done here. no_piece (known false) t p rest here done) (codes "ECHO;") ps (says (does Echo) ∷ []) cut is in
    let echoes : ss ≡ Echo ∷ [] = same ∙ ap (λ (qs : List Piece). then_all [] (S.statements_of qs)) f in
    ends_no_way ends echoes
  where
    ends_no_way : (ss ≡ normal (Print e.print ∷ End e.status ∷ [])) ⊎ ((ss ≡ normal (Print e.print ∷ [])) × (e.status ≡ 0)) → ss ≡ Echo ∷ [] → ⊥
    ends_no_way (inl s) echoes = echo_no_end e.print e.status (sym echoes ∙ s)
    ends_no_way (inr s) echoes = echo_no_literal e.print (sym echoes ∙ s.0)

pub end_actions : EndActions
unfolding token_at take_up_to is_alpha is_upper is_lower is_alnum is_blank is_digit is_xdigit octal_at hexadecimal_at until_quote simple_escape after_word run_at name_at escape_at after_space after_spaces expect string_escape_at literal_at
end_actions = record {
  ends = (Print (codes "a\n") ∷ End 3 ∷ [], (word (codes "puts") ∷ sign (codes "(") ∷ string (codes "a") ∷ sign (codes ")") ∷ sign (codes ";") ∷ word (codes "exit") ∷ sign (codes "(") ∷ digits (codes "3") ∷ sign (codes ")") ∷ sign (codes ";") ∷ [], Print (codes "a\n") ∷ End 3 ∷ [], (codes "(\"a\"); exit(3);", refl, (codes "\"a\"); exit(3);", refl, (codes "); exit(3);", refl, (codes "; exit(3);", refl, (codes " exit(3);", refl, (codes "(3);", refl, (codes "3);", refl, (codes ");", refl, (codes ";", refl, ([], refl, refl)))))))))), (said (word (codes "puts") ∷ sign (codes "(") ∷ string (codes "a") ∷ sign (codes ")") ∷ []) (word (codes "exit") ∷ sign (codes "(") ∷ digits (codes "3") ∷ sign (codes ")") ∷ sign (codes ";") ∷ []) (Print (codes "a\n") ∷ []) (End 3 ∷ []) (puts (codes "a")) (said (word (codes "exit") ∷ sign (codes "(") ∷ digits (codes "3") ∷ sign (codes ")") ∷ []) [] (End 3 ∷ []) [] (exit (codes "3") (omega arith)) none)), refl), refl, inl refl);
  without_status = (Print (codes "a\n") ∷ [], one false (codes "puts(\"a\");") (word (codes "puts") ∷ sign (codes "(") ∷ string (codes "a") ∷ sign (codes ")") ∷ []) (Print (codes "a\n") ∷ []) (codes "(\"a\");", refl, (codes "\"a\");", refl, (codes ");", refl, (codes ";", refl, ([], refl, refl))))) (puts (codes "a")), refl, inr (refl, refl));
  echo = echo_at_end;
}
