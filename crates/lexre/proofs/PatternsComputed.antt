-- The worked examples of patterns, computed.
use Rattle.std.proofs.Common.{◌≡◌, ℕ, List, [], ◌∷◌, Some, None, codes, refl}
use Rattle.std.proofs.lemmas.Bool.{leb-true}
use Rattle.std.specs.FinMap.{get}
use Rattle.std.specs.Prelude.{true, false, nat_le, ◌+◌, ◌^◌, ◌++◌}
use Rattle.lex_semantics.specs.ByteSets.{has, set_of, empty_set, single, range_set, union, complement, other_case, fold_case, is_upper, is_lower, is_alpha, is_digit, is_xdigit, is_alnum, is_blank, named_set}
use Rattle.lex_semantics.specs.Escapes.{simple_escape, octal_at, hexadecimal_at, until_quote}
use Rattle.lex_semantics.specs.Reading.{take_up_to}
use Rattle.lex_semantics.specs.Shapes.{nodes}
use Rattle.lex_semantics.specs.Tree.{Tree, Empty, Set, Cat, Alt, Star, Repeat, trees}
use Rattle.lexre_bytes.specs.Lexical.{after_word, run_at, number_at, name_at, escape_at, quoted_tree, class_name_at, enclosed_by, bracketed_at, range_at, element_at, elements_at, class_at, span, class_set, bounded, interval_at, braces_at, symbol_at}
use Rattle.lexre_bytes.specs.Symbols.{item, name}
use Rattle.lexre.specs.Grammar.{SpellsWithin}
use Rattle.lexre.specs.Limits.{max_nodes, max_open}
use Rattle.lexre.specs.PatternExamples.{a, b, c, ab, a_or_b, one_letter, quote, backslash, signed_often, repeated_often, enclosed, Is, IsNone, plain, folding, over_series, Items, Classes, ClassNames, Escapes, Folded, Joined, Operators, OverItems, OverSeries, Named, Bounds, Refused, RefusedItems}
use Rattle.lexre.specs.Running.{state, fresh, pushed}
use Rattle.lexre.specs.declared.options.ReadOptions.{ReadOptions}
use Rattle.lexre.proofs.GrammarLaws.{spelled_runs, runs_spelled}
use Rattle.lexre.proofs.PatternTries.{tried, found_runs, none_runs_text}

pub is_tree : (how : ReadOptions) (n : ℕ) (text : List ℕ) (t : Tree) → tried how.posix how.fold n (state fresh [] max_open) text ≡ Some (Some t) → nat_le (nodes t) max_nodes ≡ true → Is how text t
is_tree how n text t found few = λ definitions.
    (runs_spelled how.posix (symbol_at how.fold) (get definitions) max_open text t (found_runs how.posix how.fold (get definitions) n (state fresh [] max_open) text t found), leb-true (nodes t) max_nodes few)

pub is_none : (how : ReadOptions) (n : ℕ) (text : List ℕ) → tried how.posix how.fold n (state fresh [] max_open) text ≡ Some None → IsNone how text
is_none how n text none = λ definitions t spells.
    none_runs_text how.posix how.fold (get definitions) n (state fresh [] max_open) text t none
    (spelled_runs how.posix (symbol_at how.fold) (get definitions) max_open text t spells.0)

pub items : Items
unfolding after_word run_at number_at name_at escape_at quoted_tree class_name_at enclosed_by bracketed_at range_at element_at elements_at class_at span class_set bounded interval_at braces_at symbol_at has set_of empty_set single range_set union complement other_case fold_case is_alpha is_digit is_alnum simple_escape octal_at hexadecimal_at until_quote take_up_to
items = (
  is_tree plain 20 (codes "a") a refl refl,
  is_tree plain 20 (codes ".") (Set (complement (single 10))) refl refl,
  is_tree plain 20 (backslash ++ codes "n") (one_letter 10) refl refl,
  is_tree plain 20 (codes "[a-c]") (Set (range_set 97 99)) refl refl,
  is_tree plain 20 (codes "[^a]") (Set (complement (single 97))) refl refl,
  is_tree plain 20 (quote ++ quote) Empty refl refl,
  is_tree plain 20 (quote ++ codes "a" ++ quote) a refl refl,
  is_tree plain 20 (quote ++ codes "ab" ++ quote) ab refl refl,
)

pub classes : Classes
unfolding after_word run_at number_at name_at escape_at quoted_tree class_name_at enclosed_by bracketed_at range_at element_at elements_at class_at span class_set bounded interval_at braces_at symbol_at has set_of empty_set single range_set union complement other_case fold_case is_upper is_lower is_alpha is_digit is_alnum simple_escape octal_at hexadecimal_at until_quote take_up_to is_xdigit named_set
classes = (
  is_tree plain 20 (codes "[]a]") (Set (2 ^ 93 + 2 ^ 97)) refl refl,
  is_tree plain 20 (codes "[a-]") (Set (2 ^ 45 + 2 ^ 97)) refl refl,
  is_tree plain 20 (codes "[a-c-e]") (Set (2 ^ 45 + 2 ^ 97 + 2 ^ 98 + 2 ^ 99 + 2 ^ 101)) refl refl,
  is_tree plain 20 (codes "[^\\n]") (Set (complement (single 10))) refl refl,
  is_tree plain 20 (codes "[[.]") (Set (2 ^ 46 + 2 ^ 91)) refl refl,
  is_tree plain 20 (codes "[[:digit:]]") (Set (range_set 48 57)) refl refl,
  is_tree plain 20 (codes "[[:xdigit:]]") (Set (union (range_set 48 57) (union (range_set 65 70) (range_set 97 102)))) refl refl,
)

pub class_names : ClassNames
unfolding after_word run_at number_at name_at escape_at quoted_tree class_name_at enclosed_by bracketed_at range_at element_at elements_at class_at span class_set bounded interval_at braces_at symbol_at has set_of empty_set single range_set union complement other_case fold_case is_upper is_lower is_alpha is_digit is_alnum is_blank simple_escape octal_at hexadecimal_at until_quote take_up_to is_xdigit named_set
class_names = (
  is_tree plain 20 (codes "[[:alpha:]]") (Set (union (range_set 65 90) (range_set 97 122))) refl refl,
  is_tree plain 20 (codes "[[:upper:]]") (Set (range_set 65 90)) refl refl,
  is_tree plain 20 (codes "[[:lower:]]") (Set (range_set 97 122)) refl refl,
  is_tree plain 20 (codes "[[:alnum:]]") (Set (union (range_set 48 57) (union (range_set 65 90) (range_set 97 122)))) refl refl,
  is_tree plain 20 (codes "[[:space:]]") (Set (union (range_set 9 13) (single 32))) refl refl,
  is_tree plain 20 (codes "[[:blank:]]") (Set (union (single 9) (single 32))) refl refl,
  is_tree plain 20 (codes "[[:cntrl:]]") (Set (union (range_set 0 31) (single 127))) refl refl,
  is_tree plain 20 (codes "[[:graph:]]") (Set (range_set 33 126)) refl refl,
  is_tree plain 20 (codes "[[:print:]]") (Set (range_set 32 126)) refl refl,
  is_tree plain 20 (codes "[[:punct:]]") (Set (union (union (range_set 33 47) (range_set 58 64)) (union (range_set 91 96) (range_set 123 126)))) refl refl,
)

pub escapes : Escapes
unfolding after_word run_at number_at name_at escape_at quoted_tree class_name_at enclosed_by bracketed_at range_at element_at elements_at class_at span class_set bounded interval_at braces_at symbol_at has set_of empty_set single range_set union complement other_case fold_case is_alpha is_digit is_alnum simple_escape octal_at hexadecimal_at until_quote take_up_to is_xdigit
escapes = (
  is_tree plain 20 (codes "\\x411") (Cat (trees (one_letter 65 ∷ one_letter 49 ∷ []))) refl refl,
  is_tree plain 20 (codes "\\1011") (Cat (trees (one_letter 65 ∷ one_letter 49 ∷ []))) refl refl,
  is_tree plain 20 (codes "\\x") (one_letter 120) refl refl,
  is_tree plain 20 (codes "\\a\\b\\f\\n\\r\\t\\v") (Cat (trees (one_letter 7 ∷ one_letter 8 ∷ one_letter 12 ∷ one_letter 10 ∷ one_letter 13 ∷ one_letter 9 ∷ one_letter 11 ∷ []))) refl refl,
  is_tree plain 20 (codes "\\*") (one_letter 42) refl refl,
  is_tree plain 20 (codes "\"a\\\"b\"") (Cat (trees (a ∷ one_letter 34 ∷ b ∷ []))) refl refl,
)

pub folded : Folded
unfolding after_word run_at number_at name_at escape_at quoted_tree class_name_at enclosed_by bracketed_at range_at element_at elements_at class_at span class_set bounded interval_at braces_at symbol_at has set_of empty_set single range_set union complement other_case fold_case is_alpha is_digit is_alnum simple_escape octal_at hexadecimal_at until_quote take_up_to
folded = (
  is_tree folding 20 (codes "a") (Set (2 ^ 65 + 2 ^ 97)) refl refl,
  is_tree folding 20 (codes "\"a\"") (Set (2 ^ 65 + 2 ^ 97)) refl refl,
  is_tree folding 20 (codes "[A-B]") (Set (2 ^ 65 + 2 ^ 66 + 2 ^ 97 + 2 ^ 98)) refl refl,
  is_tree folding 20 (codes "[^a]") (Set (complement (2 ^ 65 + 2 ^ 97))) refl refl,
)

pub joined : Joined
unfolding symbol_at
joined = (
  is_tree plain 20 (codes "ab") ab refl refl,
  is_tree plain 20 (codes "abc") (Cat (trees (a ∷ b ∷ c ∷ []))) refl refl,
  is_tree plain 20 (codes "a|b") a_or_b refl refl,
  is_tree plain 20 (codes "ab|c") (Alt (trees (ab ∷ c ∷ []))) refl refl,
  is_tree plain 20 (codes "(a)") a refl refl,
  is_tree plain 20 (codes "(ab)c") (Cat (trees (ab ∷ c ∷ []))) refl refl,
  is_tree plain 20 (codes "(a|b)c") (Cat (trees (a_or_b ∷ c ∷ []))) refl refl,
)

pub operators : Operators
unfolding symbol_at
operators = (
  is_tree plain 20 (codes "a*") (Star a) refl refl,
  is_tree plain 20 (codes "a+") (Repeat a 1 None) refl refl,
  is_tree plain 20 (codes "a?") (Repeat a 0 (Some 1)) refl refl,
  is_tree plain 20 (codes "ab*") (Cat (trees (a ∷ Star b ∷ []))) refl refl,
  is_tree plain 20 (codes "(ab)*") (Star ab) refl refl,
  is_tree plain 20 (codes "a|b*") (Alt (trees (a ∷ Star b ∷ []))) refl refl,
  is_tree plain 20 (codes "a+*") (Star (Repeat a 1 None)) refl refl,
)

pub over_items : OverItems
unfolding after_word run_at number_at name_at escape_at quoted_tree class_name_at enclosed_by bracketed_at range_at element_at elements_at class_at span class_set bounded interval_at braces_at symbol_at is_alpha is_digit is_alnum simple_escape octal_at hexadecimal_at until_quote take_up_to
over_items = (
  is_tree plain 20 (codes "a{2}") (Repeat a 2 (Some 2)) refl refl,
  is_tree plain 20 (codes "a{2,}") (Repeat a 2 None) refl refl,
  is_tree plain 20 (codes "a{2,3}") (Repeat a 2 (Some 3)) refl refl,
  is_tree plain 20 (codes "ab{2}") (Cat (trees (a ∷ Repeat b 2 (Some 2) ∷ []))) refl refl,
  is_tree plain 20 (codes "a*b{2}c") (Cat (trees (Star a ∷ Repeat b 2 (Some 2) ∷ c ∷ []))) refl refl,
)

pub over_series_too : OverSeries
unfolding after_word run_at number_at name_at escape_at quoted_tree class_name_at enclosed_by bracketed_at range_at element_at elements_at class_at span class_set bounded interval_at braces_at symbol_at is_alpha is_digit is_alnum simple_escape octal_at hexadecimal_at until_quote take_up_to
over_series_too = (
  is_tree over_series 20 (codes "a{2}") (Repeat a 2 (Some 2)) refl refl,
  is_tree over_series 20 (codes "ab{2}") (Repeat ab 2 (Some 2)) refl refl,
  is_tree over_series 20 (codes "ab{2}*") (Star (Repeat ab 2 (Some 2))) refl refl,
  is_tree over_series 20 (codes "ab{2}c") (Cat (trees (Repeat ab 2 (Some 2) ∷ c ∷ []))) refl refl,
  is_tree over_series 20 (codes "c|ab{2}") (Alt (trees (c ∷ Repeat ab 2 (Some 2) ∷ []))) refl refl,
  is_tree over_series 20 (codes "a*b") (Cat (trees (Star a ∷ b ∷ []))) refl refl,
)

pub bounds : Bounds
unfolding symbol_at
bounds = (
  is_tree plain 80 (signed_often 64) (repeated_often 64) refl refl,
  is_none plain 80 (signed_often 65) refl,
  is_tree plain 200 (enclosed 64) a refl refl,
  is_none plain 200 (enclosed 65) refl,
)

pub refused : Refused
unfolding after_word run_at number_at name_at escape_at quoted_tree class_name_at enclosed_by bracketed_at range_at element_at elements_at class_at span class_set bounded interval_at braces_at symbol_at has set_of empty_set single range_set union complement other_case fold_case is_upper is_lower is_alpha is_digit is_alnum simple_escape octal_at hexadecimal_at until_quote take_up_to
refused = (
  is_none plain 20 [] refl,
  is_none plain 20 (codes "*a") refl,
  is_none plain 20 (codes "a|") refl,
  is_none plain 20 (codes "|a") refl,
  is_none plain 20 (codes "(a") refl,
  is_none plain 20 (codes "a)") refl,
  is_none plain 20 (codes "()") refl,
  is_none plain 20 (codes "a{2,1}") refl,
  is_none plain 20 (codes "a{256}") refl,
  is_none plain 20 (codes "a{,2}") refl,
  is_none plain 20 (codes "a{0}") refl,
  is_none plain 20 (codes "[a") refl,
  is_none plain 20 (quote ++ codes "a") refl,
  is_none plain 20 (codes "[c-a]") refl,
  is_none plain 20 (codes "a b") refl,
)

-- the choice that a name stands for, and then the letter behind it
pub named : Named
unfolding after_word run_at number_at name_at escape_at quoted_tree class_name_at enclosed_by bracketed_at range_at element_at elements_at class_at span class_set bounded interval_at braces_at symbol_at is_upper is_lower is_alpha is_digit is_alnum simple_escape octal_at hexadecimal_at until_quote take_up_to
named = λ definitions found.
    let inside : SpellsWithin false (symbol_at false) (get definitions) 63 (codes "a|b") a_or_b =
    runs_spelled false (symbol_at false) (get definitions) 63 (codes "a|b") a_or_b (found_runs false false (get definitions) 20 (state fresh [] 63) (codes "a|b") a_or_b refl) in (
      runs_spelled false (symbol_at false) (get definitions) 64 (codes "{D-1}c") (Cat (trees (a_or_b ∷ c ∷ []))) (
        name (codes "D-1") ∷ item c ∷ [],
        (codes "c", refl, ([], refl, refl)),
        (state (pushed a_or_b fresh) [] 64, (a_or_b, (codes "a|b", found, inside), refl), (state (pushed c (pushed a_or_b fresh)) [] 64, refl, refl)),
      ),
      leb-true (nodes (Cat (trees (a_or_b ∷ c ∷ [])))) max_nodes refl,
    )

pub refused_items : RefusedItems
unfolding after_word run_at number_at name_at escape_at quoted_tree class_name_at enclosed_by bracketed_at range_at element_at elements_at class_at span class_set bounded interval_at braces_at symbol_at has set_of empty_set single range_set union complement other_case fold_case is_upper is_lower is_alpha is_digit is_alnum simple_escape octal_at hexadecimal_at until_quote take_up_to is_xdigit named_set
refused_items = (
  is_none plain 20 (codes "[]") refl,
  is_none plain 20 (codes "[^\\0-\\377]") refl,
  is_none plain 20 (codes "[[:foo:]]") refl,
  is_none plain 20 (codes "[[:^digit:]]") refl,
  is_none plain 20 (codes "[[=a=]]") refl,
  is_none plain 20 (codes "[[.a.]]") refl,
  is_none plain 20 (codes "[a-[:digit:]]") refl,
  is_none plain 20 (codes "\\400") refl,
  is_none plain 20 backslash refl,
  is_none plain 20 (codes "a/b") refl,
  is_none plain 20 (codes "a\tb") refl,
  is_none plain 20 (codes "a\nb") refl,
  is_none plain 20 (codes "a\\\nb") refl,
  is_none plain 20 (codes "\"a\nb\"") refl,
  is_none plain 20 (codes "[a\n]") refl,
)
