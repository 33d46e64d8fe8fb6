-- The names that have a meaning in a text, as words. (POSIX, lex, Definitions in lex, Actions in lex; flex, Start
-- Conditions, Scanner Options.)
use Rattle.std.specs.Prelude.{◌≡◌, ℕ, if◌then◌else◌, List, [], ◌++◌, flat_map, codes}
use Rattle.lex_semantics.specs.Reading.{goes_on_name, take_run}
use Rattle.lexspec_lines.specs.DefinitionLines.{has_name}
use Rattle.lexspec_lines.specs.Lines.{before_blank, line_in, words}
use Rattle.lexlook_text.specs.DefinitionLines.{section_lines}
use Rattle.lexlook_text.specs.declared.known.KnownNames.{KnownNames}
use Rattle.lexlook_text.specs.declared.definitions.LineKind.TheVariants.{Definition, Declaration}

-- options that are read
abbrev pub option_words : List ℕ
option_words =
    codes
    "noyywrap nounput noinput yylineno 8bit batch interactive always-interactive never-interactive case-insensitive stack"

-- classes of the POSIX locale
abbrev pub class_words : List ℕ
class_words = codes "alpha digit alnum upper lower space blank cntrl graph print punct xdigit"

-- words of statements, and those of the stack of conditions
abbrev pub statement_words : List ℕ
statement_words = codes "ECHO REJECT BEGIN printf fputs puts yymore yyless yyterminate exit yytext yyout "

abbrev pub stack_words : List ℕ
stack_words = codes "yy_push_state yy_pop_state "

-- the bytes at the front with which a name may go on
abbrev pub front_name : List ℕ → List ℕ
front_name text = (take_run goes_on_name text).0

-- of the line that begins the text what stands behind its first word, where that is one of these
abbrev pub declared_by : List ℕ → List ℕ → List ℕ
declared_by firsts text =
    let (word, rest) = before_blank (line_in text).0 in
    if has_name (words firsts) word then rest ++ codes " " else []

abbrev pub all_declared : List ℕ → List (ℕ × List ℕ) → List ℕ
all_declared firsts declarations = flat_map (λ l. declared_by firsts l.1) declarations

-- the conditions that these lines declare, and INITIAL
abbrev pub condition_names : List (ℕ × List ℕ) → List ℕ
condition_names declarations = codes "INITIAL " ++ all_declared (codes "%s %S %start %Start %x %X") declarations

-- the words of the stack, where these lines set its option
abbrev pub stack_words_in : List (ℕ × List ℕ) → List ℕ
stack_words_in declarations =
    if has_name (words (all_declared (codes "%option") declarations)) (codes "stack") then stack_words else []

-- what may stand in an action beside the words of statements: those of the stack, and conditions
abbrev pub argument_names : List (ℕ × List ℕ) → List ℕ
argument_names declarations = stack_words_in declarations ++ condition_names declarations

-- what may stand in an action
abbrev pub action_names : List (ℕ × List ℕ) → List ℕ
action_names declarations = statement_words ++ argument_names declarations

-- the names of these definitions
abbrev pub definition_names : List (ℕ × List ℕ) → List ℕ
definition_names definitions = flat_map (λ l. front_name l.1 ++ codes " ") definitions

-- the names of a text with these lines
pub record AreNamesOf (lines : List (ℕ × List ℕ)) (names : KnownNames) : Type 0 where
  pub conditions : names.conditions.items ≡ condition_names (section_lines Declaration lines)
  pub arguments : names.arguments.items ≡ argument_names (section_lines Declaration lines)
  pub words : names.words.items ≡ action_names (section_lines Declaration lines)
  pub definitions : names.definitions.items ≡ definition_names (section_lines Definition lines)
