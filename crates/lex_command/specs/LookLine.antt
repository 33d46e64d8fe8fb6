-- What the words of the command line of lexlook ask for.
use Rattle.std.specs.Prelude.{◌≡◌, ◌||◌, if◌then◌else◌, ⊤, true, List, [], ◌∷◌, Option, Some, None, fold, map, codes, option_map, string_bytes}
use Rattle.std.specs.Str.{bytes_eq}
use Rattle.clap.specs.Words.{App, Row, Rule, Text, all_of, fault_of, first_of, new_app, new_rule, subcommand_of, with_rule, with_subcommand}
use Rattle.clap.specs.Simple.{on_top}
use Rattle.clap.specs.declared.builder.action.ArgAction.TheVariants.{Count, Set}
use Rattle.lex_command.specs.CommandLine.{files_of, letter_rule, words_rule}
use Rattle.lex_command.specs.Flags.{flag_rule, has_flag, is_separator, pattern_rules, patterns_of}
use Rattle.lex_command.specs.declared.look.args.About.{About}
use Rattle.lex_command.specs.declared.look.args.About.TheVariants.{Help, UnicodeVersion, Version}
use Rattle.lex_command.specs.declared.look.args.Look.{Look}
use Rattle.lex_command.specs.declared.look.args.Look.TheVariants.{About as OfItself, Check, Letters, One, Same, Suite}
use Rattle.lex_command.specs.declared.look.args.Subcommand.{Subcommand}
use Rattle.lex_command.specs.declared.look.args.Subcommand.TheVariants.{Count as Counts, Cover, Header, Lines, Overlaps, Picture, Trace, Words}

-- ---- the program's command line, in clap's terms

-- a word that has to stand there
abbrev pub needed_rule : Text → Rule
needed_rule name = record (new_rule name) { action = Some Set; required = true }

abbrev pub without_help : App → App
without_help a = on_top (λ s. record s { disable_help_flag = true }) a

-- a subcommand of this name: behind it `-i` and `-X` may stand, and these files have to
abbrev pub file_app : Text → List Rule → App
file_app name files = fold with_rule (fold with_rule (without_help (new_app name)) pattern_rules) files

-- the file of a subcommand, and the two of `same`
abbrev pub one_file : List Rule
one_file = needed_rule (codes "file") ∷ []

abbrev pub two_files : List Rule
two_files = needed_rule (codes "left") ∷ needed_rule (codes "right") ∷ []

-- behind `utf8` stand sets
abbrev pub sets_app : App
sets_app = with_rule (without_help (new_app (codes "utf8"))) (words_rule (codes "set"))

-- one word or more, which have to stand there
abbrev pub needed_words_rule : Text → Rule
needed_words_rule name = record (words_rule name) { required = true }

-- a flag that is a word, as `--json`, which may be repeated
abbrev pub long_rule : Text → Rule
long_rule word = record (new_rule word) { long = Some word; action = Some Count }

-- `-s` (115), how the faults are told, and the files of `check`
abbrev pub check_words : List Rule
check_words = flag_rule (codes "strict") 115 ∷ long_rule (codes "json") ∷ needed_words_rule (codes "file") ∷ []

-- where the inputs of `suite` are put, by `-o` (111), and its file
abbrev pub suite_words : List Rule
suite_words = letter_rule (codes "out") 111 ∷ one_file

-- a flag of a subcommand's own, and its file
abbrev pub flagged_file : Text → List Rule
flagged_file flag = long_rule flag ∷ one_file

-- the words begin after the program's name, and name a subcommand; clap knows no help
abbrev pub no_subcommand : App
no_subcommand =
    on_top (λ s. record s
    { no_binary_name = true; disable_help_flag = true; disable_help_subcommand = true; subcommand_required = true })
    (new_app (codes "lexlook"))

-- the program's command line
abbrev pub lexlook_app : App
lexlook_app = fold with_subcommand no_subcommand (
    (file_app (codes "picture") one_file).top
    ∷ (file_app (codes "same") two_files).top
    ∷ (file_app (codes "lines") one_file).top
    ∷ (file_app (codes "words") one_file).top
    ∷ (file_app (codes "overlaps") one_file).top
    ∷ (file_app (codes "trace") (flagged_file (codes "offsets"))).top
    ∷ (file_app (codes "cover") one_file).top
    ∷ (file_app (codes "header") (flagged_file (codes "rust"))).top
    ∷ (file_app (codes "count") (flagged_file (codes "json"))).top
    ∷ sets_app.top
    ∷ (file_app (codes "check") check_words).top
    ∷ (file_app (codes "suite") suite_words).top
    ∷ [])

-- ---- what is asked for

-- the version that `--version` asks for: the program's, and behind `utf8` that of Unicode
abbrev pub told_version : List Text → About
told_version [] = Version
told_version (word ∷ rest) = if bytes_eq word (codes "utf8") then UnicodeVersion else Version

-- what the first of the words `--help`, `-h` and `--version` asks for, if it stands before any `--`, where this is the
-- version
abbrev pub first_about : About → List Text → Option About
first_about what [] = None
first_about what (word ∷ rest) =
    if is_separator word then None
    else if bytes_eq word (codes "--help") || bytes_eq word (codes "-h") then Some Help
    else if bytes_eq word (codes "--version") then Some what
    else first_about what rest

abbrev pub about_of : List Text → Option About
about_of words = first_about (told_version words) words

-- what a subcommand of one file is called
abbrev pub name_of : Subcommand → Text
name_of Picture = codes "picture"
name_of Lines = codes "lines"
name_of Words = codes "words"
name_of Overlaps = codes "overlaps"
name_of (Trace offsets) = codes "trace"
name_of Cover = codes "cover"
name_of (Header rust) = codes "header"
name_of (Counts json) = codes "count"

-- its own flag is said to stand there if it does
abbrev pub HasOwn : Subcommand → List Row → Type 0
HasOwn (Trace offsets) met = offsets ≡ has_flag (codes "offsets") met
HasOwn (Header rust) met = rust ≡ has_flag (codes "rust") met
HasOwn (Counts json) met = json ≡ has_flag (codes "json") met
HasOwn other met = ⊤

-- What a subcommand asks for, by its name and what stands behind it: the files, with `-i` and `-X` as they stand there,
-- and the folder of `suite` if one does.
abbrev pub IsLookOf : Option (Text × List Row) → Look → Type 0
IsLookOf (Some p) (One what file patterns) = (p.0 ≡ name_of what)
    × (Some (string_bytes file) ≡ first_of (codes "file") p.1)
    × HasOwn what p.1 × (patterns ≡ patterns_of p.1)
IsLookOf (Some p) (Same left right patterns) = (p.0 ≡ codes "same")
    × (Some (string_bytes left) ≡ first_of (codes "left") p.1)
    × (Some (string_bytes right) ≡ first_of (codes "right") p.1)
    × (patterns ≡ patterns_of p.1)
IsLookOf (Some p) (Letters sets) =
    (p.0 ≡ codes "utf8") × (Some (map string_bytes sets.items) ≡ all_of (codes "set") p.1)
IsLookOf (Some p) (Check files strict json patterns) = (p.0 ≡ codes "check")
    × (map string_bytes files.items ≡ files_of p.1)
    × (strict ≡ has_flag (codes "strict") p.1) × (json ≡ has_flag (codes "json") p.1) × (patterns ≡ patterns_of p.1)
IsLookOf (Some p) (Suite file folder patterns) = (p.0 ≡ codes "suite")
    × (Some (string_bytes file) ≡ first_of (codes "file") p.1)
    × (option_map string_bytes folder ≡ first_of (codes "out") p.1)
    × (patterns ≡ patterns_of p.1)
IsLookOf p look = ⊥

-- The words ask for something of the program itself if one of them does, before any `--`. Else they are a line of the
-- program's, and ask for what the subcommand does.
abbrev pub AsksToShow : List Text → Look → Type 0
AsksToShow words (OfItself what) = about_of words ≡ Some what
AsksToShow words look = (about_of words ≡ None)
    × (fault_of lexlook_app words ≡ [])
    × IsLookOf (subcommand_of lexlook_app words) look
