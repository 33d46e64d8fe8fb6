-- The worked examples of whole files, computed.
use Rattle.std.proofs.Common.{◌≡◌, ℕ, zero, suc, ◌<◌, ◌≤◌, true, false, List, [], ◌∷◌, Option, Some, None, inl, refl, arith}
use Rattle.std.proofs.lemmas.Bool.{leb-true}
use Rattle.std.specs.Cmp.Lexicographic.{nat_list_cmp_total}
use Rattle.std.specs.FinMap.{get, from_entries, get-from_entries}
use Rattle.std.specs.Prelude.{codes, length, count_by, IfSome}
use Rattle.lex_semantics.specs.ByteSets.{has, set_of, empty_set, single, range_set, union, other_case, fold_case, is_upper, is_lower, is_alpha, is_digit, is_alnum, is_blank}
use Rattle.lex_semantics.specs.Escapes.{simple_escape, until_quote}
use Rattle.lex_semantics.specs.Reading.{take_up_to}
use Rattle.lex_semantics.specs.Limits.{max_conditions, max_file_bytes, max_rules}
use Rattle.lex_semantics.specs.Shapes.{IsSoundTree, nodes}
use Rattle.lex_semantics.specs.Sound.{IsCutOf}
use Rattle.lex_semantics.specs.Spec.{Rule, Echo, Print, More, End, Push, Pop}
use Rattle.lex_semantics.specs.Tree.{Tree, Set, Star, Repeat}
use Rattle.lexre_bytes.specs.Lexical.{after_word, run_at, number_at, name_at, escape_at, quoted_tree, class_name_at, enclosed_by, bracketed_at, range_at, element_at, elements_at, class_at, span, class_set, interval_at, braces_at, symbol_at}
use Rattle.lexre_bytes.specs.Symbols.{name, sign}
use Rattle.lexre.specs.Definitions.{Definitions}
use Rattle.lexre.specs.Grammar.{SpellsWithin}
use Rattle.lexre.specs.Limits.{max_nodes}
use Rattle.lexre.specs.PatternExamples.{plain, folding, one_letter}
use Rattle.lexre.specs.Running.{state, fresh, frame, pushed, on_item}
use Rattle.lexre.specs.Spelling.{Spells}
use Rattle.lexre.proofs.GrammarLaws.{runs_spelled}
use Rattle.lexre.proofs.PatternTries.{found_runs}
use Rattle.lexre.proofs.PatternsComputed.{is_tree}
use Rattle.lexspec_actions.specs.Actions.{SpellsEndAction}
use Rattle.lexspec_actions.specs.ActionSteps as Steps
use Rattle.lexspec_actions.specs.ActionSteps.{does, prints}
use Rattle.lexspec_actions.proofs.GrammarLaws.{from_steps}
use Rattle.lexspec_actions.specs.Bytes as B
use Rattle.lexspec_actions.specs.Names.{known_in}
use Rattle.lexspec_lines.specs.DefinitionLines.{options, all_conditions}
use Rattle.lexspec_lines.specs.Declaring.{names_of}
use Rattle.lexspec_lines.proofs.DeclaringLaws.{test_distinct}
use Rattle.lexspec.specs.ItemRuns.{Item, skipped, no_trail, line_end, pattern_after}
use Rattle.lexspec.specs.Endings.{lists_number}
use Rattle.lexspec.specs.Files.{AreSingle}
use Rattle.lexspec.specs.Items.{unlisted, every, only}
use Rattle.lexspec.specs.WaitingRules.{IsRule, RulesFrom}
use Rattle.lexspec.specs.RuleItems.{EndRule}
use Rattle.lexspec.specs.SpecExamples.{whole_file, ended, open_at_end, number, letters, opening, closing, any_other, whole_spec, WholeFile, short_file, both_cases, ShortFile, key_file, key_rule, KeyFile}
use Rattle.lexspec.specs.Tests.{any_below, sound_tree, sound_trail, cut_fits}
use Rattle.lexspec.proofs.ComputedSections.{whole_definitions, from_separator, from_user, other_item, letters_item, end_items, last_items, later_items, whole_items, whole_first, whole_second, short_items, short_first, short_second, key_items, key_first, key_second}
use Rattle.lexspec.proofs.ItemRunLaws.{all_as}
use Rattle.lexspec.proofs.RuleRunLaws.{rules_first}
use Rattle.lexspec.proofs.CutLaws.{cut_is_fit}
use Rattle.lexspec.proofs.TestLaws.{tree_is_sound}
use Rattle.lexspec.proofs.FileSections.{from_sections}

-- ---- the whole file

abbrev names : List (List ℕ)
names = codes "INITIAL" ∷ codes "A" ∷ codes "B" ∷ codes "C" ∷ []

abbrev named : Definitions
named = from_entries ((codes "D", codes "[0-9]") ∷ [])

abbrev digit : Tree
digit = Set (range_set 48 57)

digit_named : get named (codes "D") ≡ Some (codes "[0-9]")
digit_named = get-from_entries nat_list_cmp_total ((codes "D", codes "[0-9]") ∷ []) (codes "D")

digit_spelled : SpellsWithin false (symbol_at false) (get named) 63 (codes "[0-9]") digit
unfolding after_word run_at number_at name_at escape_at class_name_at enclosed_by bracketed_at range_at element_at elements_at class_at span class_set symbol_at has set_of empty_set range_set union is_alpha is_digit is_alnum take_up_to
digit_spelled = runs_spelled false (symbol_at false) (get named) 63 (codes "[0-9]") digit (found_runs false false (get named) 20 (state fresh [] 63) (codes "[0-9]") digit refl)

-- the name, and then the sign
number_spelled : Spells plain named (codes "{D}+") number.head
unfolding after_word run_at number_at name_at interval_at braces_at symbol_at is_upper is_lower is_alpha is_digit is_alnum take_up_to
number_spelled = (
  runs_spelled false (symbol_at false) (get named) 64 (codes "{D}+") number.head (
    name (codes "D") ∷ sign false (λ t. Repeat t 1 None) ∷ [],
    (codes "+", refl, ([], refl, refl)),
    (
      state (pushed digit fresh) [] 64,
      (digit, (codes "[0-9]", digit_named, digit_spelled), refl),
      (state (frame [] [] (Some number.head) (on_item 0 1)) [] 64, refl, refl),
    ),
  ),
  leb-true (nodes number.head) max_nodes refl,
)

-- the cut is that of the sides, as tests say
cut_as_tested : (r : Rule) → sound_tree r.head ≡ true → sound_trail r.trail ≡ true → cut_fits r.cut r.head r.trail ≡ true → IsCutOf r.head r.trail r.cut
cut_as_tested r head trail fits = cut_is_fit r.cut r.head r.trail (tree_is_sound r.head head) (sound r.trail trail) fits
  where
    sound : (t : Option Tree) → sound_trail t ≡ true → IfSome t IsSoundTree
    sound None h = tt
    sound (Some t) h = tree_is_sound t h

number_ruled : (is : List (ℕ × Item)) (rules : List Rule) → IsRule names plain true named 17 unlisted true (codes "{D}+") line_end (Some (codes "ECHO;")) is rules number
unfolding has set_of single range_set any_below take_up_to is_alpha is_upper is_lower is_alnum is_blank is_digit after_word Steps.piece_from Steps.statement_at Steps.after_word Steps.parts_of Steps.this_word Steps.no_argument Steps.number_argument Steps.second_word Steps.formatted_at Steps.printf_at Steps.yymore_at Steps.yyterminate_at Steps.pop_at Steps.exit_at Steps.after_statement Steps.condition_at Steps.closed_condition Steps.push_at Steps.stack_word run_at number_at name_at B.after_space B.after_spaces B.expect B.string_escape_at escape_at B.literal_at
number_ruled is rules = (
  record {
    line_is = refl;
    listed = refl;
    anchor = refl;
    head_is = number_spelled;
    trail_is = refl;
    cut_is = cut_as_tested number refl refl refl;
  },
  refl,
  (from_steps (known_in names true) (codes "ECHO;") (Echo ∷ []) (Steps.says (does Echo) ∷ [], ([], refl, refl), refl, refl), refl),
)

letters_ruled : IsRule names plain true named 19 (only (codes "A" ∷ codes "C" ∷ [])) false (codes "ab") (pattern_after (codes "c*")) None later_items (opening ∷ closing ∷ any_other ∷ []) letters
unfolding symbol_at has set_of single any_below
letters_ruled = (
  record {
    line_is = refl;
    listed = refl;
    anchor = refl;
    head_is = is_tree plain 20 (codes "ab") letters.head refl refl named;
    trail_is = is_tree plain 20 (codes "c*") (Star (one_letter 99)) refl refl named;
    cut_is = cut_as_tested letters refl refl refl;
  },
  refl,
  refl,
)

opening_ruled : (is : List (ℕ × Item)) (rules : List Rule) → IsRule names plain true named 20 unlisted false (codes "\"/*\"") no_trail (Some (codes "{ yy_push_state(B); /* } */\n  yymore(); }")) is rules opening
unfolding symbol_at until_quote quoted_tree take_up_to is_alpha is_upper is_lower is_alnum is_blank is_digit after_word Steps.piece_from Steps.statement_at Steps.after_word Steps.parts_of Steps.this_word Steps.no_argument Steps.number_argument Steps.second_word Steps.formatted_at Steps.printf_at Steps.yymore_at Steps.yyterminate_at Steps.pop_at Steps.exit_at Steps.after_statement Steps.condition_at Steps.closed_condition Steps.push_at Steps.stack_word run_at number_at name_at B.after_space B.after_spaces B.expect B.string_escape_at escape_at B.literal_at
opening_ruled is rules = (
  record {
    line_is = refl;
    listed = refl;
    anchor = refl;
    head_is = is_tree plain 20 (codes "\"/*\"") opening.head refl refl named;
    trail_is = refl;
    cut_is = refl;
  },
  refl,
  (
    from_steps (known_in names true) (codes "{ yy_push_state(B); /* } */\n  yymore(); }") (Push 2 ∷ More ∷ []) (
      Steps.opens ∷ Steps.says (does (Push 2)) ∷ Steps.says (does More) ∷ Steps.closes ∷ [],
      (codes " yy_push_state(B); /* } */\n  yymore(); }", refl, (codes " /* } */\n  yymore(); }", refl, (codes " }", refl, ([], refl, refl)))),
      refl,
      refl,
    ),
    refl,
  ),
)

closing_ruled : (is : List (ℕ × Item)) (rules : List Rule) → IsRule names plain true named 22 (only (codes "B" ∷ [])) false (codes "\"*/\"") no_trail (Some (codes "yy_pop_state();")) is rules closing
unfolding symbol_at until_quote quoted_tree take_up_to is_alpha is_upper is_lower is_alnum is_blank is_digit after_word Steps.piece_from Steps.statement_at Steps.after_word Steps.parts_of Steps.this_word Steps.no_argument Steps.number_argument Steps.second_word Steps.formatted_at Steps.printf_at Steps.yymore_at Steps.yyterminate_at Steps.pop_at Steps.exit_at Steps.after_statement Steps.condition_at Steps.closed_condition Steps.push_at Steps.stack_word run_at number_at name_at B.after_space B.after_spaces B.expect B.string_escape_at escape_at B.literal_at
closing_ruled is rules = (
  record {
    line_is = refl;
    listed = refl;
    anchor = refl;
    head_is = is_tree plain 20 (codes "\"*/\"") closing.head refl refl named;
    trail_is = refl;
    cut_is = refl;
  },
  refl,
  (from_steps (known_in names true) (codes "yy_pop_state();") (Pop ∷ []) (Steps.says (does Pop) ∷ [], ([], refl, refl), refl, refl), refl),
)

other_ruled : (is : List (ℕ × Item)) (rules : List Rule) → IsRule names plain true named 23 every false (codes ".|\\n") no_trail (Some (codes ";")) is rules any_other
unfolding symbol_at escape_at simple_escape take_up_to is_blank after_word Steps.piece_from Steps.statement_at Steps.after_word Steps.parts_of Steps.this_word Steps.no_argument Steps.number_argument Steps.second_word Steps.formatted_at Steps.printf_at Steps.yymore_at Steps.yyterminate_at Steps.pop_at Steps.exit_at Steps.after_statement Steps.condition_at Steps.closed_condition Steps.push_at Steps.stack_word run_at number_at name_at B.after_space B.after_spaces B.expect B.string_escape_at B.literal_at
other_ruled is rules = (
  record {
    line_is = refl;
    listed = refl;
    anchor = refl;
    head_is = is_tree plain 20 (codes ".|\\n") any_other.head refl refl named;
    trail_is = refl;
    cut_is = refl;
  },
  refl,
  (from_steps (known_in names true) (codes ";") ([]) (Steps.semicolon ∷ [], ([], refl, refl), refl, refl), refl),
)

open_spelled : SpellsEndAction (known_in names true) (codes "{ printf(\"open\"); exit(2); }") open_at_end
unfolding take_up_to is_alpha is_upper is_lower is_alnum is_blank is_digit simple_escape until_quote after_word Steps.piece_from Steps.statement_at Steps.after_word Steps.parts_of Steps.this_word Steps.no_argument Steps.number_argument Steps.second_word Steps.formatted_at Steps.printf_at Steps.yymore_at Steps.yyterminate_at Steps.pop_at Steps.exit_at Steps.after_statement Steps.condition_at Steps.closed_condition Steps.push_at Steps.stack_word run_at number_at name_at B.after_space B.after_spaces B.expect B.string_escape_at escape_at B.literal_at
open_spelled = (
  Print (codes "open") ∷ End 2 ∷ [],
  from_steps (known_in names true) (codes "{ printf(\"open\"); exit(2); }") (Print (codes "open") ∷ End 2 ∷ []) (
    Steps.opens ∷ Steps.says (prints (codes "open")) ∷ Steps.says (does (End 2)) ∷ Steps.closes ∷ [],
    (codes " printf(\"open\"); exit(2); }", refl, (codes " exit(2); }", refl, (codes " }", refl, ([], refl, refl)))),
    refl,
    refl,
  ),
  refl,
  inl refl,
)

ended_spelled : SpellsEndAction (known_in names true) (codes "{ printf(\"end\"); yyterminate(); }") ended
unfolding take_up_to is_alpha is_upper is_lower is_alnum is_blank is_digit simple_escape until_quote after_word Steps.piece_from Steps.statement_at Steps.after_word Steps.parts_of Steps.this_word Steps.no_argument Steps.number_argument Steps.second_word Steps.formatted_at Steps.printf_at Steps.yymore_at Steps.yyterminate_at Steps.pop_at Steps.exit_at Steps.after_statement Steps.condition_at Steps.closed_condition Steps.push_at Steps.stack_word run_at number_at name_at B.after_space B.after_spaces B.expect B.string_escape_at escape_at B.literal_at
ended_spelled = (
  Print (codes "end") ∷ End 0 ∷ [],
  from_steps (known_in names true) (codes "{ printf(\"end\"); yyterminate(); }") (Print (codes "end") ∷ End 0 ∷ []) (
    Steps.opens ∷ Steps.says (prints (codes "end")) ∷ Steps.says (does (End 0)) ∷ Steps.closes ∷ [],
    (codes " printf(\"end\"); yyterminate(); }", refl, (codes " yyterminate(); }", refl, (codes " }", refl, ([], refl, refl)))),
    refl,
    refl,
  ),
  refl,
  inl refl,
)

abbrev whole_ends : List EndRule
whole_ends = (Some (2 ∷ []), open_at_end) ∷ (None, ended) ∷ []

whole_ruled : RulesFrom names plain true named whole_items whole_spec.rules whole_ends
whole_ruled =
    let last : RulesFrom names plain true named last_items (closing ∷ any_other ∷ []) whole_ends = (
      closing,
      any_other ∷ [],
      refl,
      closing_ruled ((23, other_item) ∷ end_items) (any_other ∷ []),
      (
        any_other,
        [],
        refl,
        other_ruled end_items [],
        (
          Some (2 ∷ []),
          open_at_end,
          (None, ended) ∷ [],
          refl,
          open_spelled,
          refl,
          (None, ended, [], refl, ended_spelled, refl, (refl, refl)),
        ),
      ),
    ) in (
      number,
      letters ∷ opening ∷ closing ∷ any_other ∷ [],
      refl,
      number_ruled ((18, skipped) ∷ (19, letters_item) ∷ later_items) (letters ∷ opening ∷ closing ∷ any_other ∷ []),
      (
        letters,
        opening ∷ closing ∷ any_other ∷ [],
        refl,
        letters_ruled,
        (opening, closing ∷ any_other ∷ [], refl, opening_ruled last_items (closing ∷ any_other ∷ []), last),
      ),
    )

-- no condition has two ends
whole_single : AreSingle 4 whole_ends
whole_single = (one, leb-true _ _ refl)
  where
    one : (c : ℕ) → c < 4 → count_by (λ (e : EndRule). lists_number e.0 c) whole_ends ≤ 1
    one zero h = leb-true _ _ refl
    one (suc zero) h = leb-true _ _ refl
    one (suc (suc zero)) h = leb-true _ _ refl
    one (suc (suc (suc zero))) h = leb-true _ _ refl
    one (suc (suc (suc (suc c)))) h = absurd (omega (arith, h))

pub whole : WholeFile
unfolding is_blank
whole = record {
  short = leb-true (length whole_file) max_file_bytes refl;
  definitions = whole_definitions;
  items = all_as whole_items;
  sections = from_sections whole_file whole_definitions (all_as whole_items) (record { after = from_separator; first = whole_first; separator = refl; rest = from_user; second = whole_second });
  names = test_distinct (names_of (all_conditions whole_definitions)) refl;
  defined_once = test_distinct (codes "D" ∷ []) refl;
  options = refl;
  ends = whole_ends;
  rules = rules_first names plain true named whole_items whole_spec.rules whole_ends whole_ruled;
  one_end = whole_single;
  conditions = refl;
  few_conditions = leb-true 4 max_conditions refl;
  few_rules = leb-true 5 max_rules refl;
}

-- ---- the short file

short_ruled : RulesFrom (codes "INITIAL" ∷ []) folding false (from_entries []) short_items (both_cases ∷ []) []
unfolding symbol_at has set_of single fold_case other_case take_up_to is_alpha is_upper is_lower is_alnum is_blank is_digit after_word Steps.piece_from Steps.statement_at Steps.after_word Steps.parts_of Steps.this_word Steps.no_argument Steps.number_argument Steps.second_word Steps.formatted_at Steps.printf_at Steps.yymore_at Steps.yyterminate_at Steps.pop_at Steps.exit_at Steps.after_statement Steps.condition_at Steps.closed_condition Steps.push_at Steps.stack_word run_at number_at name_at B.after_space B.after_spaces B.expect B.string_escape_at escape_at B.literal_at
short_ruled = (
  both_cases,
  [],
  refl,
  (
    record {
      line_is = refl;
      listed = refl;
      anchor = refl;
      head_is = is_tree folding 20 (codes "a") both_cases.head refl refl (from_entries []);
      trail_is = refl;
      cut_is = refl;
    },
    refl,
    (from_steps (known_in (codes "INITIAL" ∷ []) false) (codes "ECHO;") (Echo ∷ []) (Steps.says (does Echo) ∷ [], ([], refl, refl), refl, refl), refl),
  ),
  (refl, refl),
)

short_single : AreSingle 1 []
short_single = (λ c h. leb-true _ _ refl, leb-true _ _ refl)

pub short : ShortFile
unfolding is_blank
short = record {
  short = leb-true (length short_file) max_file_bytes refl;
  definitions = options (codes "case-insensitive" ∷ []) ∷ [];
  items = all_as short_items;
  sections = from_sections short_file (options (codes "case-insensitive" ∷ []) ∷ []) (all_as short_items) (record {
    after = codes "%%\na ECHO;";
    first = short_first;
    separator = refl;
    rest = [];
    second = short_second;
  });
  names = test_distinct (codes "INITIAL" ∷ []) refl;
  defined_once = tt;
  options = refl;
  ends = [];
  rules = rules_first (codes "INITIAL" ∷ []) folding false (from_entries []) short_items (both_cases ∷ []) [] short_ruled;
  one_end = short_single;
  conditions = refl;
  few_conditions = leb-true 1 max_conditions refl;
  few_rules = leb-true 1 max_rules refl;
}

-- ---- the file of one rule

key_ruled : RulesFrom (codes "INITIAL" ∷ []) plain false (from_entries []) key_items (key_rule ∷ []) []
unfolding symbol_at has set_of single simple_escape until_quote take_up_to is_alpha is_upper is_lower is_alnum is_blank is_digit after_word Steps.piece_from Steps.statement_at Steps.after_word Steps.parts_of Steps.this_word Steps.no_argument Steps.number_argument Steps.second_word Steps.formatted_at Steps.printf_at Steps.yymore_at Steps.yyterminate_at Steps.pop_at Steps.exit_at Steps.after_statement Steps.condition_at Steps.closed_condition Steps.push_at Steps.stack_word run_at number_at name_at B.after_space B.after_spaces B.expect B.string_escape_at escape_at B.literal_at
key_ruled = (
  key_rule,
  [],
  refl,
  (
    record {
      line_is = refl;
      listed = refl;
      anchor = refl;
      head_is = is_tree plain 20 (codes "if") key_rule.head refl refl (from_entries []);
      trail_is = refl;
      cut_is = refl;
    },
    refl,
    (from_steps (known_in (codes "INITIAL" ∷ []) false) (codes "printf(\"K\");") (Print (codes "K") ∷ []) (Steps.says (prints (codes "K")) ∷ [], ([], refl, refl), refl, refl), refl),
  ),
  (refl, refl),
)

pub key_read : KeyFile
unfolding is_blank
key_read = record {
  short = leb-true (length key_file) max_file_bytes refl;
  definitions = [];
  items = all_as key_items;
  sections = from_sections key_file [] (all_as key_items) (record {
    after = key_file;
    first = key_first;
    separator = refl;
    rest = [];
    second = key_second;
  });
  names = test_distinct (codes "INITIAL" ∷ []) refl;
  defined_once = tt;
  options = refl;
  ends = [];
  rules = rules_first (codes "INITIAL" ∷ []) plain false (from_entries []) key_items (key_rule ∷ []) [] key_ruled;
  one_end = short_single;
  conditions = refl;
  few_conditions = leb-true 1 max_conditions refl;
  few_rules = leb-true 1 max_rules refl;
}
