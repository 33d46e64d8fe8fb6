-- The worked examples of whole files, cut into lines, items and pieces.
use Rattle.std.proofs.Common.{◌≡◌, ℕ, ◌+◌, ◌-◌, true, false, Bool, List, [], ◌∷◌, Some, None, inl, inr, refl, sym, arith}
use Rattle.std.specs.Prelude.{codes, ◌++◌, length}
use Rattle.lex_semantics.specs.ByteSets.{is_upper, is_lower, is_alpha, is_digit, is_alnum, is_blank}
use Rattle.lex_semantics.specs.Escapes.{simple_escape, until_quote}
use Rattle.lex_semantics.specs.Reading.{take_up_to}
use Rattle.lexre_bytes.specs.Lexical.{after_word, name_at, escape_at}
use Rattle.lexre_bytes.specs.Quotes.{after_quotes}
use Rattle.lexre.specs.Cutting.{IsCutting, piece_at}
use Rattle.lexre.specs.Pieces.{Piece, IsPieces, dollar, other, slash, kind_at, slashes, ends_with_dollar}
use Rattle.lexre.proofs.PieceLaws.{cutting_of}
use Rattle.lexspec_lines.specs.DefinitionLines.{DefinitionLine, code_line, code_block, declares, options, ignored, defines, definition_at, definition_in, percent_line, IsUpTo}
use Rattle.lexspec_lines.specs.Skips.{IsDefinition, AreNumbered, AreFrom}
use Rattle.lexspec.specs.ItemRuns.{Item, skipped, skipped_line, skipped_block, rule, IsLine, no_trail, line_end, pattern_after, at_end, matching, IsSides}
use Rattle.lexspec.proofs.ItemRunLaws.{all_as, numbered_items, numbered_lines}
use Rattle.lexspec_lines.specs.Lines.{after_block, without_returns}
use Rattle.lexspec.specs.Items.{AreItems, unlisted, every, only, conditions_at, after_string, after_piece, action_end, action_at}
use Rattle.lexspec.specs.SpecExamples.{rules_section, user_code, whole_file, WholeSkips, short_file, key_file}
use Rattle.lexspec.proofs.FileSections.{cut_by}

-- the cutting of a pattern without a slash outside parentheses, by its pieces
without_slash : (t : List ℕ) (pieces : List (Piece × ℕ)) (end : ℕ) (special : Bool) → IsPieces 0 t pieces end → slashes 0 pieces ≡ Some [] → ends_with_dollar pieces ≡ special → IsCutting t end None false special
without_slash t pieces end special cut outside last =
    cutting_of t end None false special (record { pieces = pieces; cut = cut; places = []; outside = outside; first = refl; second = refl; last = sym last })

-- ---- the whole file

abbrev pub from_sizes : List ℕ
from_sizes = codes "%p 3000\n" ++ codes "%%\n" ++ rules_section ++ codes "%%\n" ++ user_code

abbrev pub from_option : List ℕ
from_option = codes "%option stack\n" ++ from_sizes

abbrev pub from_exclusive : List ℕ
from_exclusive = codes "%x B C\n" ++ from_option

abbrev pub from_inclusive : List ℕ
from_inclusive = codes "%s A\n" ++ from_exclusive

abbrev pub from_name : List ℕ
from_name = codes "D [0-9]\n" ++ from_inclusive

abbrev pub from_code : List ℕ
from_code = codes "  int depth;\n" ++ from_name

abbrev pub from_comment : List ℕ
from_comment = codes "/* Digits,\n   and comments. */\n" ++ from_code

abbrev pub from_separator : List ℕ
from_separator = codes "%%\n" ++ rules_section ++ codes "%%\n" ++ user_code

abbrev pub whole_definitions : List DefinitionLine
whole_definitions =
    code_block ∷ ignored ∷ code_line ∷ defines (codes "D") (codes "[0-9]") ∷ declares false (codes "A" ∷ [])
    ∷ declares true (codes "B" ∷ codes "C" ∷ []) ∷ options (codes "stack" ∷ []) ∷ ignored ∷ []

abbrev numbered_definitions : List (ℕ × DefinitionLine)
numbered_definitions =
    (1, code_block) ∷ (4, ignored) ∷ (6, code_line) ∷ (7, defines (codes "D") (codes "[0-9]")) ∷ (8, declares false (codes "A" ∷ []))
    ∷ (9, declares true (codes "B" ∷ codes "C" ∷ [])) ∷ (10, options (codes "stack" ∷ [])) ∷ (11, ignored) ∷ []

pub whole_first : IsUpTo definition_at (without_returns whole_file) whole_definitions from_separator
unfolding definition_at definition_in name_at percent_line after_block take_up_to is_alpha is_upper is_lower is_alnum is_blank is_digit
whole_first =
    (from_comment, refl, (from_code, refl, (from_name, refl, (from_inclusive, refl, (from_exclusive, refl, (from_option, refl, (from_sizes, refl, (from_separator, refl, refl))))))))

abbrev pub from_user : List ℕ
from_user = codes "%%\n" ++ user_code

abbrev pub from_end : List ℕ
from_end = codes "<<EOF>> { printf(\"end\"); yyterminate(); }\n" ++ from_user

abbrev pub from_end_in_b : List ℕ
from_end_in_b = codes "<B><<EOF>> { printf(\"open\"); exit(2); }\n" ++ from_end

abbrev pub from_other : List ℕ
from_other = codes "<*>.|\\n ;\n" ++ from_end_in_b

abbrev pub from_closing : List ℕ
from_closing = codes "<B>\"*/\" yy_pop_state();\n" ++ from_other

abbrev pub from_opening : List ℕ
from_opening = codes "\"/*\" { yy_push_state(B); /* } */\n  yymore(); }\n" ++ from_closing

abbrev pub from_letters : List ℕ
from_letters = codes "<A,C>ab/c* |\n" ++ from_opening

abbrev pub from_empty : List ℕ
from_empty = codes "\n" ++ from_letters

abbrev pub from_number : List ℕ
from_number = codes "^{D}+$ ECHO;\n" ++ from_empty

abbrev pub from_block : List ℕ
from_block = codes "%{\nn = 0;\n%}\n" ++ from_number

abbrev pub number_item : Item
number_item = rule unlisted (matching true (codes "{D}+") line_end) (Some (codes "ECHO;"))

abbrev pub letters_item : Item
letters_item = rule (only (codes "A" ∷ codes "C" ∷ [])) (matching false (codes "ab") (pattern_after (codes "c*"))) None

abbrev pub opening_item : Item
opening_item = rule unlisted (matching false (codes "\"/*\"") no_trail) (Some (codes "{ yy_push_state(B); /* } */\n  yymore(); }"))

abbrev pub closing_item : Item
closing_item = rule (only (codes "B" ∷ [])) (matching false (codes "\"*/\"") no_trail) (Some (codes "yy_pop_state();"))

abbrev pub other_item : Item
other_item = rule every (matching false (codes ".|\\n") no_trail) (Some (codes ";"))

abbrev pub end_in_b_item : Item
end_in_b_item = rule (only (codes "B" ∷ [])) at_end (Some (codes "{ printf(\"open\"); exit(2); }"))

abbrev pub end_item : Item
end_item = rule unlisted at_end (Some (codes "{ printf(\"end\"); yyterminate(); }"))

-- the items from the last rule on, and so on back to the first
abbrev pub end_items : List (ℕ × Item)
end_items = (24, end_in_b_item) ∷ (25, end_item) ∷ []

abbrev pub last_items : List (ℕ × Item)
last_items = (22, closing_item) ∷ (23, other_item) ∷ end_items

abbrev pub later_items : List (ℕ × Item)
later_items = (20, opening_item) ∷ last_items

abbrev pub whole_items : List (ℕ × Item)
whole_items = (13, skipped_line) ∷ (14, skipped_block) ∷ (17, number_item) ∷ (18, skipped) ∷ (19, letters_item) ∷ later_items

number_here : IsLine from_number number_item from_empty
unfolding conditions_at kind_at piece_at slashes ends_with_dollar take_up_to is_blank action_at action_end after_piece after_string until_quote
number_here =
    let after = codes " ECHO;\n" ++ from_empty in (
      refl,
      from_number,
      after,
      codes "ECHO;",
      refl,
      (
        refl,
        refl,
        (
          5,
          without_slash (codes "{D}+$" ++ after) ((other, 0) ∷ (other, 1) ∷ (other, 2) ∷ (other, 3) ∷ (dollar, 4) ∷ []) 5 true (codes "D}+$" ++ after, refl, refl, (codes "}+$" ++ after, refl, refl, (codes "+$" ++ after, refl, refl, (codes "$" ++ after, refl, refl, (after, refl, refl, (refl, refl)))))) refl refl,
          refl,
          refl,
        ),
      ),
      refl,
      refl,
    )

letters_here : IsLine from_letters letters_item from_opening
unfolding conditions_at kind_at piece_at slashes ends_with_dollar take_up_to is_blank action_at action_end after_piece after_string until_quote
letters_here =
    let after = codes " |\n" ++ from_opening in (
      refl,
      codes "ab/c*" ++ after,
      after,
      codes "|",
      refl,
      (
        refl,
        refl,
        (
          5,
          2,
          cutting_of (codes "ab/c*" ++ after) 5 (Some 2) false false (record {
            pieces = (other, 0) ∷ (other, 1) ∷ (slash, 2) ∷ (other, 3) ∷ (other, 4) ∷ [];
            cut = (codes "b/c*" ++ after, refl, refl, (codes "/c*" ++ after, refl, refl, (codes "c*" ++ after, refl, refl, (codes "*" ++ after, refl, refl, (after, refl, refl, (refl, refl))))));
            places = 2 ∷ [];
            outside = refl;
            first = refl;
            second = refl;
            last = refl;
          }),
          refl,
          refl,
          refl,
        ),
      ),
      refl,
      refl,
    )

opening_here : IsLine from_opening opening_item from_closing
unfolding conditions_at kind_at piece_at slashes ends_with_dollar take_up_to is_blank after_quotes until_quote action_at action_end after_piece after_string
opening_here =
    let after = codes " { yy_push_state(B); /* } */\n  yymore(); }\n" ++ from_closing in (
      refl,
      from_opening,
      after,
      codes "{ yy_push_state(B); /* } */\n  yymore(); }",
      refl,
      (
        refl,
        refl,
        (
          4,
          without_slash (from_opening) ((other, 0) ∷ []) 4 false (after, refl, refl, (refl, refl)) refl refl,
          refl,
          refl,
        ),
      ),
      refl,
      refl,
    )

closing_here : IsLine from_closing closing_item from_other
unfolding conditions_at kind_at piece_at slashes ends_with_dollar take_up_to is_blank after_quotes until_quote action_at action_end after_piece after_string
closing_here =
    let after = codes " yy_pop_state();\n" ++ from_other in (
      refl,
      codes "\"*/\"" ++ after,
      after,
      codes "yy_pop_state();",
      refl,
      (
        refl,
        refl,
        (
          4,
          without_slash (codes "\"*/\"" ++ after) ((other, 0) ∷ []) 4 false (after, refl, refl, (refl, refl)) refl refl,
          refl,
          refl,
        ),
      ),
      refl,
      refl,
    )

other_here : IsLine from_other other_item from_end_in_b
unfolding conditions_at kind_at piece_at slashes ends_with_dollar take_up_to is_blank after_word escape_at simple_escape action_at action_end after_piece after_string until_quote
other_here =
    let after = codes " ;\n" ++ from_end_in_b in (
      refl,
      codes ".|\\n" ++ after,
      after,
      codes ";",
      refl,
      (
        refl,
        refl,
        (
          4,
          without_slash (codes ".|\\n" ++ after) ((other, 0) ∷ (other, 1) ∷ (other, 2) ∷ []) 4 false (codes "|\\n" ++ after, refl, refl, (codes "\\n" ++ after, refl, refl, (after, refl, refl, (refl, refl)))) refl refl,
          refl,
          refl,
        ),
      ),
      refl,
      refl,
    )

end_in_b_here : IsLine from_end_in_b end_in_b_item from_end
unfolding conditions_at take_up_to is_blank action_at action_end after_piece after_string until_quote
end_in_b_here =
    let after = codes " { printf(\"open\"); exit(2); }\n" ++ from_end in
    (refl, codes "<<EOF>>" ++ after, after, codes "{ printf(\"open\"); exit(2); }", refl, (refl, refl, refl), refl, refl)

end_here : IsLine from_end end_item from_user
unfolding conditions_at take_up_to is_blank action_at action_end after_piece after_string until_quote
end_here =
    let after = codes " { printf(\"end\"); yyterminate(); }\n" ++ from_user in
    (refl, from_end, after, codes "{ printf(\"end\"); yyterminate(); }", refl, (refl, refl, refl), refl, refl)

-- the lines of the definitions, each with its number
whole_lines : AreFrom IsDefinition 1 (without_returns whole_file) numbered_definitions from_separator
unfolding definition_at definition_in name_at percent_line after_block take_up_to is_alpha is_upper is_lower is_alnum is_blank is_digit
whole_lines =
    let last : AreNumbered IsDefinition 28 from_exclusive ((9, declares true (codes "B" ∷ codes "C" ∷ [])) ∷ (10, options (codes "stack" ∷ [])) ∷ (11, ignored) ∷ []) from_separator =
    (from_option, refl, refl, (from_sizes, refl, refl, (from_separator, refl, refl, refl))) in
    (from_comment, refl, refl, (from_code, refl, refl, (from_name, refl, refl, (from_inclusive, refl, refl, (from_exclusive, refl, refl, last)))))

-- the items, up to the second `%%`
whole_pieces : AreFrom IsLine 13 (rules_section ++ from_user) whole_items from_user
unfolding after_block take_up_to is_blank
whole_pieces =
    let ends : AreNumbered IsLine 28 from_end_in_b end_items from_user = (from_end, refl, end_in_b_here, (from_user, refl, end_here, refl)) in
    let last : AreNumbered IsLine 28 from_opening later_items from_user = (from_closing, refl, opening_here, (from_other, refl, closing_here, (from_end_in_b, refl, other_here, ends))) in
    let later : AreNumbered IsLine 28 from_number ((17, number_item) ∷ (18, skipped) ∷ (19, letters_item) ∷ later_items) from_user =
    (from_empty, refl, number_here, (from_letters, refl, ([], refl, refl), (from_opening, refl, letters_here, last))) in
    (from_block, refl, (codes "  int n;", refl, refl, refl), (from_number, refl, (refl, refl), later))

pub whole_second : AreItems 13 (rules_section ++ from_user) (all_as whole_items) from_user
whole_second = numbered_items 28 13 (rules_section ++ from_user) whole_items from_user refl (inr refl) whole_pieces

pub whole_skips : WholeSkips
unfolding is_blank
whole_skips = record {
  definitions = numbered_definitions;
  items = all_as whole_items;
  rest = from_user;
  sections = cut_by _ _ (without_returns whole_file) numbered_definitions from_separator (numbered_lines 28 (without_returns whole_file) numbered_definitions from_separator whole_lines) (refl, whole_second);
  lines_are = refl;
}

-- `a`, and a blank behind it
pub a_here : (rest : List ℕ) → IsSides (97 ∷ 32 ∷ rest) (codes "a") no_trail (32 ∷ rest)
unfolding kind_at piece_at slashes ends_with_dollar is_blank
a_here rest = (
  1,
  without_slash (97 ∷ 32 ∷ rest) ((other, 0) ∷ []) 1 false (32 ∷ rest, refl, refl, (refl, one)) refl refl,
  refl,
  refl,
)
  where
    one : 1 ≡ 0 + (length (97 ∷ 32 ∷ rest) - length (32 ∷ rest))
    one = omega arith

-- ---- the short file

abbrev pub short_items : List (ℕ × Item)
short_items = (3, rule unlisted (matching false (codes "a") no_trail) (Some (codes "ECHO;"))) ∷ []

pub short_first : IsUpTo definition_at (without_returns short_file) (options (codes "case-insensitive" ∷ []) ∷ []) (codes "%%\na ECHO;")
unfolding definition_at percent_line take_up_to is_blank
short_first = (codes "%%\na ECHO;", refl, refl)

pub short_second : AreItems 3 (codes "a ECHO;") (all_as short_items) []
unfolding conditions_at take_up_to is_blank action_at action_end after_piece after_string until_quote
short_second = (
  [],
  refl,
  (
    refl,
    codes "a ECHO;",
    codes " ECHO;",
    codes "ECHO;",
    refl,
    (refl, refl, a_here (codes "ECHO;")),
    refl,
    refl,
  ),
  (refl, inl refl),
)

-- ---- the file of one rule

abbrev pub key_items : List (ℕ × Item)
key_items = (2, rule unlisted (matching false (codes "if") no_trail) (Some (codes "printf(\"K\");"))) ∷ []

pub key_first : IsUpTo definition_at (without_returns key_file) [] key_file
key_first = refl

key_sides : IsSides (codes "if printf(\"K\");\n") (codes "if") no_trail (codes " printf(\"K\");\n")
unfolding kind_at piece_at slashes ends_with_dollar is_blank
key_sides =
    let after = codes " printf(\"K\");\n" in (
      2,
      without_slash (codes "if" ++ after) ((other, 0) ∷ (other, 1) ∷ []) 2 false (codes "f" ++ after, refl, refl, (after, refl, refl, (refl, refl))) refl refl,
      refl,
      refl,
    )

pub key_second : AreItems 2 (codes "if printf(\"K\");\n") (all_as key_items) []
unfolding conditions_at take_up_to is_blank action_at action_end after_piece after_string until_quote
key_second = (
  [],
  refl,
  (
    refl,
    codes "if printf(\"K\");\n",
    codes " printf(\"K\");\n",
    codes "printf(\"K\");",
    refl,
    (refl, refl, key_sides),
    refl,
    refl,
  ),
  (refl, inl refl),
)
