-- The words of the command lines as the code has them: rows of a name and how the word of this name stands there.
use Rattle.std.specs.Prelude.{List, fold, map}
use Rattle.std.specs.Borrow.{Bor}
use Rattle.clap.specs.Words.{App, Rule, Text, new_app, with_rule}
use Rattle.lex_command.specs.CommandLine.{letter_rule, word_rule, words_rule}
use Rattle.lex_command.specs.Flags.{flag_rule}
use Rattle.lex_command.specs.LookLine.{long_rule, needed_rule, needed_words_rule, without_help}
use Rattle.lex_command.specs.declared.words.Form.{Form}
use Rattle.lex_command.specs.declared.words.Form.TheVariants.{Flag, LongFlag, Value, LongValue, Needed, Several, NeededSeveral}

abbrev pub form_rule : Text → Form → Rule
form_rule name (Flag letter) = flag_rule name letter
form_rule name LongFlag = long_rule name
form_rule name (Value letter) = letter_rule name letter
form_rule name LongValue = word_rule name
form_rule name Needed = needed_rule name
form_rule name Several = words_rule name
form_rule name NeededSeveral = needed_words_rule name

abbrev pub rules_of : List (Bor Text × Form) → List Rule
rules_of words = map (λ word. form_rule word.0.now word.1) words

-- the subcommand with these words
abbrev pub subcommand_app : Text → List (Bor Text × Form) → App
subcommand_app name words = fold with_rule (without_help (new_app name)) (rules_of words)
