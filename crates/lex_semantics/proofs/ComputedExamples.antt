-- The worked examples, computed by the plain program.
use Rattle.std.proofs.Common.{true, false, [], ◌∷◌, ◌++◌, refl}
use Rattle.std.specs.Prelude.{codes, replicate}
use Rattle.lex_semantics.specs.ByteSets.{has, single, range_set, union, complement, fold_case, other_case, set_of}
use Rattle.lex_semantics.specs.Acting.{Status, StackFault}
use Rattle.lex_semantics.specs.Acting.{perform}
use Rattle.lex_semantics.specs.Examples as E
use Rattle.lex_semantics.specs.MachineExamples as M
use Rattle.lex_semantics.proofs.PlainRun.{run_is}

pub nothing_echoes : E.Writes E.nothing (codes "abc" ++ 10 ∷ []) (codes "abc" ++ 10 ∷ []) 0
unfolding has single range_set union complement fold_case other_case set_of perform
nothing_echoes = run_is E.nothing (codes "abc" ++ 10 ∷ []) 40 (codes "abc" ++ 10 ∷ []) (Status 0) refl

pub nothing_of_nothing : E.Writes E.nothing [] [] 0
unfolding has single range_set union complement fold_case other_case set_of perform
nothing_of_nothing = run_is E.nothing [] 40 [] (Status 0) refl

pub keys_written : E.Writes E.keys (codes "if 42 x") (codes "K N x") 0
unfolding has single range_set union complement fold_case other_case set_of perform
keys_written = run_is E.keys (codes "if 42 x") 40 (codes "K N x") (Status 0) refl

pub keyword_first : E.Writes E.keyword_or_word (codes "if iff") (codes "K I") 0
unfolding has single range_set union complement fold_case other_case set_of perform
keyword_first = run_is E.keyword_or_word (codes "if iff") 40 (codes "K I") (Status 0) refl

pub more_appends : E.Writes E.mega (codes "mega-kludge") (codes "mega-mega-kludge") 0
unfolding has single range_set union complement fold_case other_case set_of perform
more_appends = run_is E.mega (codes "mega-kludge") 40 (codes "mega-mega-kludge") (Status 0) refl

pub less_returns : E.Writes E.foobar (codes "foobar") (codes "foobarbar") 0
unfolding has single range_set union complement fold_case other_case set_of perform
less_returns = run_is E.foobar (codes "foobar") 40 (codes "foobarbar") (Status 0) refl

pub reject_goes_on : E.Writes E.all_fronts (codes "abcd") (codes "abcdabcaba") 0
unfolding has single range_set union complement fold_case other_case set_of perform
reject_goes_on = run_is E.all_fronts (codes "abcd") 40 (codes "abcdabcaba") (Status 0) refl

pub less_counts_the_kept : E.Writes E.less_of_more (codes "aab") (codes "aabab") 0
unfolding has single range_set union complement fold_case other_case set_of perform
less_counts_the_kept = run_is E.less_of_more (codes "aab") 40 (codes "aabab") (Status 0) refl

pub default_echoes_all : E.Writes E.only_more (codes "ab") (codes "ab") 0
unfolding has single range_set union complement fold_case other_case set_of perform
default_echoes_all = run_is E.only_more (codes "ab") 40 (codes "ab") (Status 0) refl

pub kept_is_dropped : E.Writes E.only_more (codes "a") [] 0
unfolding has single range_set union complement fold_case other_case set_of perform
kept_is_dropped = run_is E.only_more (codes "a") 40 [] (Status 0) refl

pub lines_trimmed : E.Writes E.trim_lines (codes "a  " ++ 10 ∷ codes "b  ") (codes "a" ++ 10 ∷ codes "b  ") 0
unfolding has single range_set union complement fold_case other_case set_of perform
lines_trimmed = run_is E.trim_lines (codes "a  " ++ 10 ∷ codes "b  ") 40 (codes "a" ++ 10 ∷ codes "b  ") (Status 0) refl

pub context_returned : E.Writes E.before_cd (codes "abcdab") (codes "[ab]cdab") 0
unfolding has single range_set union complement fold_case other_case set_of perform
context_returned = run_is E.before_cd (codes "abcdab") 40 (codes "[ab]cdab") (Status 0) refl

pub line_starts : E.Writes E.first_a (codes "aa" ++ 10 ∷ codes "a") (codes "Aa" ++ 10 ∷ codes "A") 0
unfolding has single range_set union complement fold_case other_case set_of perform
line_starts = run_is E.first_a (codes "aa" ++ 10 ∷ codes "a") 40 (codes "Aa" ++ 10 ∷ codes "A") (Status 0) refl

pub open_comment : E.Writes E.comments (codes "a/*b*/c/*d") (codes "acopen") 3
unfolding has single range_set union complement fold_case other_case set_of perform
open_comment = run_is E.comments (codes "a/*b*/c/*d") 40 (codes "acopen") (Status 3) refl

pub backs_up : E.Writes E.abc (codes "abab") (codes "abab") 0
unfolding has single range_set union complement fold_case other_case set_of perform
backs_up = run_is E.abc (codes "abab") 40 (codes "abab") (Status 0) refl

pub exits : E.Writes E.exit_after_ab (codes "abXYZ") [] 7
unfolding has single range_set union complement fold_case other_case set_of perform
exits = run_is E.exit_after_ab (codes "abXYZ") 40 [] (Status 7) refl

pub exits_after_more : E.Writes E.exit_after_bs (codes "abXYZ") [] 7
unfolding has single range_set union complement fold_case other_case set_of perform
exits_after_more = run_is E.exit_after_bs (codes "abXYZ") 40 [] (Status 7) refl

pub interval_on_item : E.Writes E.two_bs (codes "abbabab") (codes "Xabab") 0
unfolding has single range_set union complement fold_case other_case set_of perform
interval_on_item = run_is E.two_bs (codes "abbabab") 40 (codes "Xabab") (Status 0) refl

pub folded_before_negated : E.Writes E.not_a (codes "bAb") (codes "NAN") 0
unfolding has single range_set union complement fold_case other_case set_of perform
folded_before_negated = run_is E.not_a (codes "bAb") 40 (codes "NAN") (Status 0) refl

pub exclusive : E.Writes (E.switched true) (codes "abcb") (codes "bB") 0
unfolding has single range_set union complement fold_case other_case set_of perform
exclusive = run_is (E.switched true) (codes "abcb") 40 (codes "bB") (Status 0) refl

pub inclusive : E.Writes (E.switched false) (codes "abcb") (codes "BB") 0
unfolding has single range_set union complement fold_case other_case set_of perform
inclusive = run_is (E.switched false) (codes "abcb") 40 (codes "BB") (Status 0) refl

pub later_rule_as_long : E.Writes E.rejected (codes "ab") (codes "abW") 0
unfolding has single range_set union complement fold_case other_case set_of perform
later_rule_as_long = run_is E.rejected (codes "ab") 40 (codes "abW") (Status 0) refl

pub one_by_one : E.Writes E.one_by_one (codes "aaaaa") [] 0
unfolding has single range_set union complement fold_case other_case set_of perform
one_by_one = run_is E.one_by_one (codes "aaaaa") 40 [] (Status 0) refl

pub context_counts : E.Writes E.longer_by_context (codes "abc") (codes "1bc") 0
unfolding has single range_set union complement fold_case other_case set_of perform
context_counts = run_is E.longer_by_context (codes "abc") 40 (codes "1bc") (Status 0) refl

pub reject_keeps_more : E.Writes E.rejects_after_more (codes "xab") (codes "xab") 0
unfolding has single range_set union complement fold_case other_case set_of perform
reject_keeps_more = run_is E.rejects_after_more (codes "xab") 40 (codes "xab") (Status 0) refl

pub echo_after_less : E.Writes (E.echoes_after_less 1) (codes "ab") (codes "ab") 0
unfolding has single range_set union complement fold_case other_case set_of perform
echo_after_less = run_is (E.echoes_after_less 1) (codes "ab") 40 (codes "ab") (Status 0) refl

pub less_of_a_shorter_text : E.Writes E.brackets_after_less (codes "ab") (codes "[ab]") 0
unfolding has single range_set union complement fold_case other_case set_of perform
less_of_a_shorter_text = run_is E.brackets_after_less (codes "ab") 40 (codes "[ab]") (Status 0) refl

pub line_of_the_match : E.Writes E.line_after_more (codes "xa") (codes "xa") 0
unfolding has single range_set union complement fold_case other_case set_of perform
line_of_the_match = run_is E.line_after_more (codes "xa") 40 (codes "xa") (Status 0) refl

pub reject_keeps_begin : E.Writes E.rejects_after_begin (codes "ab") (codes "AC") 0
unfolding has single range_set union complement fold_case other_case set_of perform
reject_keeps_begin = run_is E.rejects_after_begin (codes "ab") 40 (codes "AC") (Status 0) refl

pub end_rule : E.Writes E.says_end (codes "x") (codes "xend" ++ 10 ∷ []) 0
unfolding has single range_set union complement fold_case other_case set_of perform
end_rule = run_is E.says_end (codes "x") 40 (codes "xend" ++ 10 ∷ []) (Status 0) refl

pub end_rule_alone : E.Writes E.says_end [] (codes "end" ++ 10 ∷ []) 0
unfolding has single range_set union complement fold_case other_case set_of perform
end_rule_alone = run_is E.says_end [] 40 (codes "end" ++ 10 ∷ []) (Status 0) refl

pub ordinary_dollar : E.Writes E.dollar_inside (codes "a$bA") (codes "XY") 0
unfolding has single range_set union complement fold_case other_case set_of perform
ordinary_dollar = run_is E.dollar_inside (codes "a$bA") 40 (codes "XY") (Status 0) refl

pub nested : E.Writes E.parentheses (codes "(a())b") (codes "<a<>>b") 0
unfolding has single range_set union complement fold_case other_case set_of perform
nested = run_is E.parentheses (codes "(a())b") 40 (codes "<a<>>b") (Status 0) refl

pub pushes_the_next : E.Writes E.pushes_after_begin (codes "abc") (codes "C") 0
unfolding has single range_set union complement fold_case other_case set_of perform
pushes_the_next = run_is E.pushes_after_begin (codes "abc") 40 (codes "C") (Status 0) refl

pub empty : E.Faults E.pops_nothing (codes "xa") (codes "xA")
unfolding has single range_set union complement fold_case other_case set_of perform
empty = run_is E.pops_nothing (codes "xa") 40 (codes "xA") StackFault refl

pub full : E.Writes E.only_pushes (replicate 255 97) [] 0
unfolding has single range_set union complement fold_case other_case set_of perform
full = run_is E.only_pushes (replicate 255 97) 300 [] (Status 0) refl

pub over_full : E.Faults E.only_pushes (replicate 256 97) []
unfolding has single range_set union complement fold_case other_case set_of perform
over_full = run_is E.only_pushes (replicate 256 97) 300 [] StackFault refl

pub kept_by_reject : E.Writes E.rejects_after_push (codes "ab") (codes "Ab") 0
unfolding has single range_set union complement fold_case other_case set_of perform
kept_by_reject = run_is E.rejects_after_push (codes "ab") 40 (codes "Ab") (Status 0) refl

pub taken_by_exit : M.HasTurnRows M.exit_after_ab (codes "abXYZ") ((2, 2) ∷ [])
unfolding perform
taken_by_exit = refl

pub taken_after_more : M.HasTurnRows M.exit_after_bs (codes "abXYZ") ((3, 2) ∷ [])
unfolding perform
taken_after_more = refl

pub taken_by_keys : M.HasTurnRows M.keys (codes "if 42 x") ((2, 2) ∷ (3, 3) ∷ (5, 5) ∷ (6, 6) ∷ (7, 7) ∷ (7, 7) ∷ [])
unfolding perform
taken_by_keys = refl

pub held_after_backing_up : M.HasTurnRows M.abc (codes "abab") ((3, 1) ∷ (3, 2) ∷ (4, 3) ∷ (4, 4) ∷ (4, 4) ∷ [])
unfolding perform
held_after_backing_up = refl

pub held_context : M.HasTurnRows M.before_cd (codes "abcdab") ((4, 2) ∷ (4, 3) ∷ (4, 4) ∷ (6, 5) ∷ (6, 6) ∷ (6, 6) ∷ [])
unfolding perform
held_context = refl

pub held_one_by_one : M.HasTurnRows M.one_by_one (codes "aaaaa") ((5, 1) ∷ (5, 2) ∷ (5, 3) ∷ (5, 4) ∷ (5, 5) ∷ (5, 5) ∷ [])
unfolding perform
held_one_by_one = refl
