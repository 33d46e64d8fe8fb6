-- What the words of the command line of lex ask for.
use Rattle.std.specs.Prelude.{◌≡◌, ◌≢◌, ◌==◌, ◌+◌, ◌&&◌, ◌||◌, ℕ, Bool, true, false, not, List, [], ◌∷◌, map}
use Rattle.std.specs.Prelude.{Option, Some, None, is_some, option_map, slice_get, unwrap_or, fold, codes}
use Rattle.std.specs.Prelude.{string_bytes}
use Rattle.std.specs.List.{list_any, position, starts_with}
use Rattle.std.specs.Option.{option_map_or}
use Rattle.clap.specs.Words.{App, Row, Rule, Text, all_of, fault_of, first_of, matches_of, new_app}
use Rattle.clap.specs.Words.{new_rule, with_rule}
use Rattle.clap.specs.Lexer.{usize_max}
use Rattle.clap.specs.Simple.{on_top}
use Rattle.clap.specs.declared.builder.action.ArgAction.TheVariants.{Append, Set}
use Rattle.lex_command.specs.Flags.{flag_rule, has_flag, is_separator, patterns_of}
use Rattle.lex_command.specs.declared.job.args.Job.{Job}
use Rattle.lex_command.specs.declared.job.args.Job.TheVariants.{Generate, ScanSpec, ScanTable}

-- ---- the program's command line, in clap's terms

-- a letter that has a value
abbrev pub letter_rule : Text → ℕ → Rule
letter_rule name letter = record (new_rule name) { short = Some letter; action = Some Set }

-- a long word that has a value
abbrev pub word_rule : Text → Rule
word_rule name = record (new_rule name) { long = Some name; action = Some Set }

-- the words that stand for themselves, one or more of them
abbrev pub words_rule : Text → Rule
words_rule name = record (new_rule name) {
  action = Some Append;
  range = Some (record { start_inclusive = 1; end_inclusive = usize_max });
}

-- `-t` (116), `-n` (110), `-v` (118), `-b` (98), `-i` (105), `-X` (88) and `-w` (119)
abbrev pub flag_rules : List Rule
flag_rules = flag_rule (codes "stdout") 116
    ∷ flag_rule (codes "no-stats") 110
    ∷ flag_rule (codes "stats") 118
    ∷ flag_rule (codes "backup") 98
    ∷ flag_rule (codes "fold") 105
    ∷ flag_rule (codes "posix") 88
    ∷ flag_rule (codes "quiet") 119
    ∷ []

-- `-o` (111), `--scan-spec`, `--scan-table` and the files
abbrev pub name_rules : List Rule
name_rules = letter_rule (codes "out") 111
    ∷ word_rule (codes "scan-spec")
    ∷ word_rule (codes "scan-table")
    ∷ words_rule (codes "file")
    ∷ []

-- the words begin after the program's name
abbrev pub no_rules : App
no_rules = on_top (λ s. record s { no_binary_name = true }) (new_app (codes "lex"))

-- the program's command line
abbrev pub lex_app : App
lex_app = fold with_rule (fold with_rule no_rules flag_rules) name_rules

-- ---- words that are in none of the forms, though clap takes them

-- a word is `--`, behind which each word is a file
abbrev pub has_separator : List Text → Bool
has_separator words = list_any is_separator words

-- the byte stands at the place
abbrev pub has_byte_at : Text → ℕ → ℕ → Bool
has_byte_at word at byte = option_map_or (λ b. b == byte) (slice_get word at) false

-- `--` (45) and `=` (61), as `--scan-spec=FILE`
abbrev pub is_long_with_equals : Text → Bool
is_long_with_equals word = starts_with (λ a b. a == b) word (codes "--") && list_any (λ b. b == 61) word

-- `-` (45), and `=` (61) directly behind the first `o` (111), as `-o=FILE` and `-vo=FILE`
abbrev pub is_out_with_equals : Text → Bool
is_out_with_equals word = has_byte_at word 0 45
    && option_map_or (λ at. has_byte_at word (at + 1) 61) (position (λ b. b == 111) word) false

-- a word before any `--` has its value behind `=`
abbrev pub has_value_behind_equals : List Text → Bool
has_value_behind_equals [] = false
has_value_behind_equals (word ∷ rest) = not (is_separator word)
    && (is_long_with_equals word || (is_out_with_equals word || has_value_behind_equals rest))

-- ---- what was met

-- something stands there that only making tables takes: `-t`, `-n`, `-v`, `-b`, `-o` or a file
abbrev pub makes_tables : List Row → Bool
makes_tables met = has_flag (codes "stdout") met
    || (has_flag (codes "no-stats") met
    || (has_flag (codes "stats") met
    || (has_flag (codes "backup") met
    || (is_some (first_of (codes "out") met) || is_some (first_of (codes "file") met)))))

-- something stands there that only reading patterns takes: `-i`, `-X` or `-w`
abbrev pub reads_patterns : List Row → Bool
reads_patterns met = has_flag (codes "fold") met || (has_flag (codes "posix") met || has_flag (codes "quiet") met)

-- the files that stand there
abbrev pub files_of : List Row → List Text
files_of met = unwrap_or (all_of (codes "file") met) []

-- the making of tables that was asked for; `-n` outweighs `-v`
abbrev pub AsksToMake : List Row → Job → Type 0
AsksToMake met (Generate files out stdout stats backup patterns quiet) = (map string_bytes files.items ≡ files_of met)
    × (option_map string_bytes out ≡ first_of (codes "out") met)
    × (stdout ≡ has_flag (codes "stdout") met)
    × (stats ≡ (has_flag (codes "stats") met && not (has_flag (codes "no-stats") met)))
    × (backup ≡ has_flag (codes "backup") met)
    × (patterns ≡ patterns_of met)
    × (quiet ≡ has_flag (codes "quiet") met)
AsksToMake met _ = ⊥

-- the scan by the specification in the file that was asked for
abbrev pub ScansBySpec : List Row → Text → Job → Type 0
ScansBySpec met name (ScanSpec file patterns quiet) = (string_bytes file ≡ name)
    × (name ≢ codes "-")
    × (makes_tables met ≡ false)
    × (patterns ≡ patterns_of met)
    × (quiet ≡ has_flag (codes "quiet") met)
ScansBySpec met name _ = ⊥

-- the scan by the table in the file that was asked for
abbrev pub ScansByTable : List Row → Text → Job → Type 0
ScansByTable met name (ScanTable file) = (string_bytes file ≡ name)
    × (name ≢ codes "-")
    × (makes_tables met ≡ false)
    × (reads_patterns met ≡ false)
ScansByTable met name _ = ⊥

-- with neither word of a scan tables are made; a scan has one of the two, and no `--`
abbrev pub IsJobBy : Option Text → Option Text → Bool → List Row → Job → Type 0
IsJobBy None None separated met job = AsksToMake met job
IsJobBy (Some name) None false met job = ScansBySpec met name job
IsJobBy None (Some name) false met job = ScansByTable met name job
IsJobBy _ _ _ met job = ⊥

-- the job of what was met, where `separated` says that a word is `--`
abbrev pub IsJobOf : List Row → Bool → Job → Type 0
IsJobOf met separated job =
    IsJobBy (first_of (codes "scan-spec") met) (first_of (codes "scan-table") met) separated met job

-- the words ask for the job: none has its value behind `=`, they are a line of the program's, and the job is that of
-- what is met there
abbrev pub AsksFor : List Text → Job → Type 0
AsksFor words job = (has_value_behind_equals words ≡ false)
    × (fault_of lex_app words ≡ [])
    × IsJobOf (matches_of lex_app words) (has_separator words) job
