-- What is warned of in patterns, beside what lex warns of. (This project's.)
use Rattle.std.specs.Prelude.{ℕ, ◌-◌, ◌==◌, ◌&&◌, ◌||◌, Bool, true, false, not, nat_le, if◌then◌else◌, List, [], ◌∷◌, ◌++◌, flat_map, length, slice_get, take, Option, Some, None, codes}
use Rattle.std.specs.List.{list_any}
use Rattle.std.specs.Str.{is_utf8}
use Rattle.lex_semantics.specs.Active.{contains}
use Rattle.lex_semantics.specs.Reading.{after_blanks, begins, goes_on_name, take_run}
use Rattle.lex_semantics.specs.Spec.{Spec}
use Rattle.lexkit.specs.Generated.{lines_of}
use Rattle.lexlook_text.specs.DefinitionLines.{definition_lines, lines_from}
use Rattle.lexlook_text.specs.Pieces.{pieces_from}
use Rattle.lexlook_check.specs.BarTrails.{bar_trails}
use Rattle.lexlook_check.specs.CaseRanges.{is_case_class}
use Rattle.lexlook_check.specs.Conditions.{faultless_notices}
use Rattle.lexlook_check.specs.Differences.{differences}
use Rattle.lexlook_check.specs.EndRules.{end_notices}
use Rattle.lexlook_check.specs.FlexTrails.{trail_notices}
use Rattle.lexlook_check.specs.LineWalks.{walk_notices}
use Rattle.lexlook_check.specs.Returns.{lone_returns}
use Rattle.lexlook_check.specs.Unused.{max_looked_for, unused_notices}
use Rattle.lexlook_check.specs.declared.notices.Notice.{Notice}
use Rattle.lexlook_check.specs.declared.notices.NoticeKind.{NoticeKind}
use Rattle.lexlook_check.specs.declared.notices.NoticeKind.TheVariants.{LettersAsBytes, LetterAlone, Backspace, CaseRange}

-- so many are told of a text at most
abbrev pub max_notices : ℕ
max_notices = 100

-- a class in which a letter beyond ASCII stands, by the bytes of its UTF-8
abbrev pub has_letters : List ℕ → Bool
has_letters piece = begins (codes "[") piece && is_utf8 piece && list_any (λ b. nat_le 128 b) piece

-- a backslash before d, D, s, S, w or W, which stand for themselves; `escaped` where a backslash that counts stands
-- before the text
abbrev pub escapes_letter : Bool → List ℕ → Bool
escapes_letter escaped [] = false
escapes_letter escaped (c ∷ t) = (escaped && contains (codes "dDsSwW") c) || escapes_letter (not escaped && c == 92) t

-- what is warned of in a piece
abbrev pub notice_of : List ℕ → Option NoticeKind
notice_of piece =
    if has_letters piece then Some LettersAsBytes
    else if escapes_letter false piece then Some LetterAlone
    else if begins (codes "\\b") piece then Some Backspace
    else if is_case_class piece then Some CaseRange
    else None

-- of a piece at its place in a line
abbrev pub piece_notices : ℕ → ℕ × List ℕ → List Notice
piece_notices line p =
    elim (notice_of p.1)
    [ None ↦ [] | Some kind ↦ record { line = line; at = p.0; size = length p.1; kind = kind } ∷ [] ]

-- of the pattern that begins the text, before which so many bytes of the line stand
abbrev pub pattern_notices : ℕ → ℕ → List ℕ → List Notice
pattern_notices line before text = flat_map (piece_notices line) (pieces_from before 0 text)

-- of the definition whose line begins the text: its pattern stands behind its name and blanks
abbrev pub definition_notices : ℕ × List ℕ → List Notice
definition_notices l = let text =
    after_blanks (take_run goes_on_name l.1).1 in pattern_notices l.0 (length l.1 - length text) text

-- of the rule that begins a line: its pieces, its first class, where it walks each line at each byte, and its slash,
-- where flex takes both sides of it to vary
abbrev pub rule_line_notices : ℕ × List ℕ → List Notice
rule_line_notices l = pattern_notices l.0 0 l.1 ++ walk_notices l ++ trail_notices l

-- the same, where there is one
abbrev pub line_notices : Option (ℕ × List ℕ) → List Notice
line_notices None = []
line_notices (Some l) = rule_line_notices l

-- of the rule at the line of this number, among all lines
abbrev pub rule_notices : List (ℕ × List ℕ) → ℕ → List Notice
rule_notices lines n = line_notices (slice_get lines (n - 1))

-- of the definitions of a text, and then of its rules, which stand at these lines: of each alone, and then of those
-- behind a `|`; then of `<<EOF>>` rules, and the definitions from the line `own` on that nothing in the whole text uses
abbrev pub text_notices : ℕ → List ℕ → List ℕ → List ℕ → List Notice
text_notices own whole rules text =
    let lines = lines_from 1 true text in
    flat_map definition_notices (definition_lines text) ++ flat_map (rule_notices lines) rules
    ++ bar_trails lines false rules ++ flat_map end_notices lines
    ++ flat_map (unused_notices own whole) (take max_looked_for (definition_lines text))

-- of a text that spells this specification: these, what flex takes otherwise, carriage returns that end no line, and
-- then those of its conditions
abbrev pub notices_of : ℕ → Bool → List ℕ → Spec → List (Option ℕ) → List ℕ → List Notice
notices_of own faultless whole S copied text =
    text_notices own whole (lines_of S.rules) text ++ differences faultless S text
    ++ lone_returns text ++ faultless_notices faultless S copied text
