-- Worked examples of whole files: specifications that they spell, and files that spell none.
-- (POSIX, lex, Input Files to Actions in lex; flex, Format of the Input File, Patterns, Start Conditions, End-of-File
-- Rules, Scanner Options.)
use Rattle.std.specs.Prelude.{ℕ, ◌^◌, ◌+◌, true, false, List, [], ◌∷◌, ◌++◌, Some, None, codes}
use Rattle.lex_semantics.specs.ByteSets.{single, range_set, complement}
use Rattle.lex_semantics.specs.Spec.{Spec, Rule, Condition, EndAction, Statement, Echo, Print, More, Push, Pop, Whole, Head, Trail}
use Rattle.lex_semantics.specs.Tree.{Set, Cat, Alt, Star, Repeat, trees}
use Rattle.lexre.specs.PatternExamples.{plain, one_letter}
use Rattle.lexspec.specs.Files.{SpellsSpec}
use Rattle.lexspec.specs.Skipped.{AreSkipped}

abbrev pub IsSpec : List ℕ → Spec → Type 0
IsSpec file S = SpellsSpec plain file S

abbrev pub IsNoSpec : List ℕ → Type 0
IsNoSpec file = (S : Spec) → SpellsSpec plain file S → ⊥

-- A file with each kind of line, by its sections. It defines the name D, and has the conditions INITIAL, A, B and C, of
-- which B and C are exclusive.
abbrev pub definitions_section : List ℕ
definitions_section =
    codes "%{\n#include <stdio.h>\n%}\n"
    ++ codes "/* Digits,\n   and comments. */\n"
    ++ codes "  int depth;\n"
    ++ codes "D [0-9]\n"
    ++ codes "%s A\n"
    ++ codes "%x B C\n"
    ++ codes "%option stack\n"
    ++ codes "%p 3000\n"

abbrev pub rules_section : List ℕ
rules_section =
    codes "  int n;\n"
    ++ codes "%{\nn = 0;\n%}\n"
    ++ codes "^{D}+$ ECHO;\n"
    ++ codes "\n"
    ++ codes "<A,C>ab/c* |\n"
    ++ codes "\"/*\" { yy_push_state(B); /* } */\n  yymore(); }\n"
    ++ codes "<B>\"*/\" yy_pop_state();\n"
    ++ codes "<*>.|\\n ;\n"
    ++ codes "<B><<EOF>> { printf(\"open\"); exit(2); }\n"
    ++ codes "<<EOF>> { printf(\"end\"); yyterminate(); }\n"

abbrev pub user_code : List ℕ
user_code = codes "int main() { return yylex(); }\n"

abbrev pub whole_file : List ℕ
whole_file = definitions_section ++ codes "%%\n" ++ rules_section ++ codes "%%\n" ++ user_code

-- what is written at the end of the input, and the status
abbrev pub ended : EndAction
ended = record { print = codes "end"; status = 0 }

abbrev pub open_at_end : EndAction
open_at_end = record { print = codes "open"; status = 2 }

-- `{D}+` at the beginning of a line and at its end, where a newline follows
abbrev pub number : Rule
number = record {
  line = 17;
  conditions = None;
  anchored = true;
  head = Repeat (Set (range_set 48 57)) 1 None;
  trail = Some (one_letter 10);
  cut = Trail 1;
  statements = Echo ∷ [];
}

-- what the rule of `"/*"` says, and the one before it, by its `|`
abbrev pub opens_comment : List Statement
opens_comment = Push 2 ∷ More ∷ []

-- `ab/c*` in A and C
abbrev pub letters : Rule
letters = record {
  line = 19;
  conditions = Some (1 ∷ 3 ∷ []);
  anchored = false;
  head = Cat (trees (one_letter 97 ∷ one_letter 98 ∷ []));
  trail = Some (Star (one_letter 99));
  cut = Head 2;
  statements = opens_comment;
}

-- `"/*"`
abbrev pub opening : Rule
opening = record {
  line = 20;
  conditions = None;
  anchored = false;
  head = Cat (trees (one_letter 47 ∷ one_letter 42 ∷ []));
  trail = None;
  cut = Whole;
  statements = opens_comment;
}

-- `"*/"` in B
abbrev pub closing : Rule
closing = record {
  line = 22;
  conditions = Some (2 ∷ []);
  anchored = false;
  head = Cat (trees (one_letter 42 ∷ one_letter 47 ∷ []));
  trail = None;
  cut = Whole;
  statements = Pop ∷ [];
}

-- any other byte, in each condition
abbrev pub any_other : Rule
any_other = record {
  line = 23;
  conditions = Some (0 ∷ 1 ∷ 2 ∷ 3 ∷ []);
  anchored = false;
  head = Alt (trees (Set (complement (single 10)) ∷ one_letter 10 ∷ []));
  trail = None;
  cut = Whole;
  statements = [];
}

abbrev pub whole_conditions : List Condition
whole_conditions =
    record { name = codes "INITIAL"; exclusive = false; end = ended }
    ∷ record { name = codes "A"; exclusive = false; end = ended }
    ∷ record { name = codes "B"; exclusive = true; end = open_at_end }
    ∷ record { name = codes "C"; exclusive = true; end = ended }
    ∷ []

abbrev pub whole_spec : Spec
whole_spec = record { conditions = whole_conditions; rules = number ∷ letters ∷ opening ∷ closing ∷ any_other ∷ [] }

abbrev pub WholeFile : Type 0
WholeFile = IsSpec whole_file whole_spec

-- it has code at these lines: a block and a line in each section, and the second `%%`
abbrev pub WholeSkips : Type 0
WholeSkips = AreSkipped whole_file (1 ∷ 6 ∷ 13 ∷ 14 ∷ 26 ∷ [])

-- Carriage returns before newlines, letters for both cases, no user section, and a last line without a newline. Nothing
-- is done at the end.
abbrev pub short_file : List ℕ
short_file = codes "%option case-insensitive" ++ 13 ∷ 10 ∷ codes "%%" ++ 13 ∷ 10 ∷ codes "a ECHO;"

abbrev pub both_cases : Rule
both_cases = record {
  line = 3;
  conditions = None;
  anchored = false;
  head = Set (2 ^ 65 + 2 ^ 97);
  trail = None;
  cut = Whole;
  statements = Echo ∷ [];
}

abbrev pub initial_only : Condition
initial_only = record { name = codes "INITIAL"; exclusive = false; end = record { print = []; status = 0 } }

abbrev pub ShortFile : Type 0
ShortFile = IsSpec short_file (record { conditions = initial_only ∷ []; rules = both_cases ∷ [] })

-- One rule, which writes `K` for `if`.
abbrev pub key_file : List ℕ
key_file = codes "%%\nif printf(\"K\");\n"

abbrev pub key_rule : Rule
key_rule = record {
  line = 2;
  conditions = None;
  anchored = false;
  head = Cat (trees (one_letter 105 ∷ one_letter 102 ∷ []));
  trail = None;
  cut = Whole;
  statements = Print (codes "K") ∷ [];
}

abbrev pub key_spec : Spec
key_spec = record { conditions = initial_only ∷ []; rules = key_rule ∷ [] }

abbrev pub KeyFile : Type 0
KeyFile = IsSpec key_file key_spec

-- no `%%`; an unknown option; a condition that is declared twice; a name that is defined twice; a condition that is not
-- declared; a `|` at the last rule; two ends of the conditions without a list
pub record NoFiles : Type 0 where
  pub no_separator : IsNoSpec (codes "D [0-9]\n")
  pub no_option : IsNoSpec (codes "%option none\n%%\n")
  pub declared_twice : IsNoSpec (codes "%s A\n%x A\n%%\n")
  pub defined_twice : IsNoSpec (codes "D a\nD b\n%%\n")
  pub not_declared : IsNoSpec (codes "%%\n<A>a ECHO;\n")
  pub bar_at_end : IsNoSpec (codes "%%\na |\n")
  pub two_ends : IsNoSpec (codes "%%\n<<EOF>> exit(1);\n<<EOF>> exit(2);\n")

-- Lines that are no rules: two slashes, a slash beside a `$`, `^` before `<<EOF>>`, a `|` at `<<EOF>>`, trailing
-- context where neither side has a fixed length, and a statement of the stack without its option.
pub record NoRules : Type 0 where
  pub two_slashes : IsNoSpec (codes "%%\na/b/c ;\n")
  pub slash_and_dollar : IsNoSpec (codes "%%\na/b$ ;\n")
  pub end_at_line : IsNoSpec (codes "%%\n^<<EOF>> ;\n")
  pub bar_of_end : IsNoSpec (codes "%%\n<<EOF>> |\na ;\n")
  pub both_vary : IsNoSpec (codes "%%\na*/b* ;\n")
  pub no_stack : IsNoSpec (codes "%%\na yy_pop_state();\n")
