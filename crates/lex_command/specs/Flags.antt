-- What both command lines have, in clap's terms: flags, the word `--`, and how patterns are read.
use Rattle.std.specs.Prelude.{ℕ, Bool, List, [], ◌∷◌, Some, codes, nat_lt}
use Rattle.std.specs.Str.{bytes_eq}
use Rattle.clap.specs.Words.{Row, Rule, Text, count_of, new_rule}
use Rattle.clap.specs.declared.builder.action.ArgAction.TheVariants.{Count}
use Rattle.lex_command.specs.declared.flags.PatternFlags.{PatternFlags}

-- a flag, which may be repeated
abbrev pub flag_rule : Text → ℕ → Rule
flag_rule name letter = record (new_rule name) { short = Some letter; action = Some Count }

-- `-i` (105) and `-X` (88)
abbrev pub pattern_rules : List Rule
pattern_rules = flag_rule (codes "fold") 105 ∷ flag_rule (codes "posix") 88 ∷ []

-- `--`, behind which each word is a file
abbrev pub is_separator : Text → Bool
is_separator word = bytes_eq word (codes "--")

-- the flag stands there
abbrev pub has_flag : Text → List Row → Bool
has_flag flag met = nat_lt 0 (count_of flag met)

-- how patterns are read: letters for both cases with `-i`, intervals for series with `-X`
abbrev pub patterns_of : List Row → PatternFlags
patterns_of met = record { fold = has_flag (codes "fold") met; posix = has_flag (codes "posix") met }
