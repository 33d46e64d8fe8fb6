-- Where in a line the word is that has no meaning there. (POSIX, lex, Rules in lex; flex, Start Conditions, Scanner
-- Options.)
use Rattle.std.specs.Prelude.{ℕ, ◌+◌, ◌-◌, ◌==◌, ◌&&◌, ◌||◌, nat_lt, Bool, not, if◌then◌else◌, List, [], length, drop, Option, Some, None, is_none, unwrap_or, codes}
use Rattle.std.specs.Option.{option_or}
use Rattle.lex_semantics.specs.Limits.{max_file_bytes}
use Rattle.lex_semantics.specs.Reading.{after_blanks, begins}
use Rattle.lexre_bytes.specs.declared.refusals.SpecErrorKind.{SpecErrorKind}
use Rattle.lexre_bytes.specs.declared.refusals.SpecErrorKind.TheVariants.{BadCount, BadEofAction, BadStatus, DuplicateName, LessAndMore, NotLast, RejectCombination, Unclosed, UnknownCondition, UnknownStatement, UnsupportedOption, VariableTrailing}
use Rattle.lexspec_lines.specs.Lines.{before_blank}
use Rattle.lexspec_lines.specs.Runs.{split_before}
use Rattle.lexlook_text.specs.Formats.{format_spot}
use Rattle.lexlook_text.specs.Known.{front_name, option_words, statement_words}
use Rattle.lexlook_text.specs.Opened.{unclosed_spot}
use Rattle.lexlook_text.specs.Pieces.{behind_pattern, from_slash}
use Rattle.lexlook_text.specs.Scan.{start_at, unknown_from}
use Rattle.lexlook_text.specs.declared.scan.Spot.{Spot}

-- the first name that is not among these words, from a rest of the text of a line on, but for n before it
abbrev pub spot_behind : List ℕ × List ℕ → ℕ → ℕ × List ℕ → List ℕ → Option Spot
spot_behind known n l rest = unknown_from known n (start_at l.0 (length l.1 - length rest)) rest

-- of a line of options, behind its first word
abbrev pub option_spot : ℕ × List ℕ → Option Spot
option_spot l = spot_behind (option_words, []) 0 l (before_blank l.1).1

-- of the condition list of a rule: up to a `>` (62) or the end of the line, where a `<` opens it
abbrev pub listed_spot : List ℕ → ℕ × List ℕ → Option Spot
listed_spot conditions l =
    if begins (codes "<") l.1 && not (begins (codes "<<") l.1)
    then unknown_from (conditions, []) 0 (start_at l.0 1) (split_before (λ b. b == 62 || b == 10) (drop 1 l.1)).0
    else None

-- of the action of a rule, which stands behind its pattern
abbrev pub action_spot : List ℕ × List ℕ → ℕ → ℕ × List ℕ → Option Spot
action_spot known n l = spot_behind known n l (behind_pattern 0 l.1)

-- the first byte of the action
abbrev pub first_spot : ℕ × List ℕ → Spot
first_spot l = record { line = l.0; at = length l.1 - length (after_blanks (behind_pattern 0 l.1)); size = 1 }

-- what of a format in the action is not read, or else its first byte
abbrev pub other_spot : ℕ × List ℕ → Spot
other_spot l = unwrap_or (format_spot l) (first_spot l)

-- the words of statements that are not at fault in an action with a fault of this kind
abbrev pub sound_words : SpecErrorKind → Option (List ℕ)
sound_words UnknownStatement = Some statement_words
sound_words BadCount = Some (codes "ECHO REJECT BEGIN printf fputs puts yymore yyterminate exit yytext yyout")
sound_words LessAndMore = Some (codes "ECHO REJECT BEGIN printf fputs puts yyterminate exit yytext yyout")
sound_words BadStatus = Some (codes "ECHO REJECT BEGIN printf fputs puts yymore yyless yyterminate yytext yyout")
sound_words RejectCombination =
    Some (codes "ECHO BEGIN printf fputs puts yymore yyless yyterminate exit yytext yyout")
sound_words NotLast = Some (codes "ECHO BEGIN printf fputs puts yymore yyless yytext yyout")
sound_words BadEofAction = Some (codes "printf fputs puts yyterminate exit yytext yyout")
sound_words other = None

-- so many of these stand before the one at fault: of two that may not stand together it is the second
abbrev pub others_before : SpecErrorKind → ℕ
others_before LessAndMore = 1
others_before other = 0

-- of an action whose words are at fault but for these, behind n of them, or else of what stands in it
abbrev pub statement_spot : Option (List ℕ) → ℕ → List ℕ → ℕ × List ℕ → Option Spot
statement_spot None n arguments l = None
statement_spot (Some sound) n arguments l = option_or (action_spot (sound, arguments) n l) (Some (other_spot l))

-- of a condition that is not declared: in the list of a rule, or else in its action
abbrev pub condition_spot : List ℕ → List ℕ → ℕ × List ℕ → Option Spot
condition_spot conditions arguments l =
    option_or (listed_spot conditions l) (action_spot (statement_words, arguments) 0 l)

-- the action that begins the text has no name but those that print, so that it does not end a scan
abbrev pub prints_alone : List ℕ → Bool
prints_alone text =
    not (nat_lt max_file_bytes (length text))
    && is_none (unknown_from (codes "printf fputs puts yytext yyout", []) 0 (start_at 1 0) text)

-- the name that begins the line
abbrev pub front_spot : ℕ × List ℕ → Spot
front_spot l = record { line = l.0; at = 0; size = length (front_name l.1) }

-- the slash of a rule
abbrev pub slash_spot : ℕ × List ℕ → Spot
slash_spot l = record { line = l.0; at = length l.1 - length (from_slash 0 l.1); size = 1 }

-- of a line with a fault of this kind
abbrev pub kind_spot : List ℕ → List ℕ → SpecErrorKind → ℕ × List ℕ → Option Spot
kind_spot conditions arguments UnsupportedOption l = option_spot l
kind_spot conditions arguments UnknownCondition l = condition_spot conditions arguments l
kind_spot conditions arguments Unclosed l = unclosed_spot l
kind_spot conditions arguments DuplicateName l = Some (front_spot l)
kind_spot conditions arguments VariableTrailing l = Some (slash_spot l)
kind_spot conditions arguments kind l = statement_spot (sound_words kind) (others_before kind) arguments l

-- the same, where the text is no longer than lex takes
abbrev pub spot_of : List ℕ → List ℕ → SpecErrorKind → ℕ × List ℕ → Option Spot
spot_of conditions arguments kind l =
    if nat_lt (max_file_bytes + 1) (l.0 + length l.1) then None else kind_spot conditions arguments kind l
