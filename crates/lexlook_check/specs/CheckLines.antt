-- The lines that tell what was found. (This project's: POSIX leaves messages to the implementation. `FILE:LINE:` is
-- what compilers of C write, and what editors read.)
use Rattle.std.specs.Prelude.{ℕ, ◌+◌, ◌&&◌, not, if◌then◌else◌, List, [], ◌∷◌, ◌++◌, Option, Some, None, is_none, option_map, codes, decimal}
use Rattle.std.specs.List.{concat}
use Rattle.lexre_bytes.specs.RefusalNames.{kind_name}
use Rattle.lexauto_reports.specs.ReportLines.{warning_words}
use Rattle.lexkit.specs.Faults.{build_words}
use Rattle.lexlook_check.specs.Findings.{known_lines}
use Rattle.lexlook_check.specs.Hints.{definition_hint, hint_words, limit_hint, notice_hint}
use Rattle.lexlook_check.specs.Homes.{home_told}
use Rattle.lexlook_check.specs.Places.{file_line_words, line_place}
use Rattle.lexlook_check.specs.Remarks.{remark_told}
use Rattle.lexlook_check.specs.SourceLines.{place_in, source_words, text_line}
use Rattle.lexlook_check.specs.Takings.{TakenTexts, is_useless, taking_for, taken_words}
use Rattle.lexlook_check.specs.Weights.{limit_told}
use Rattle.lexlook_check.specs.Words.{front_words}
use Rattle.lexlook_check.specs.declared.findings.Finding.{Finding}
use Rattle.lexlook_check.specs.declared.findings.What.{What}
use Rattle.lexlook_check.specs.declared.findings.What.TheVariants.{Copied, Fault, Limit, Noticed, Warned}
use Rattle.lexlook_check.specs.declared.notices.NoticeKind.{NoticeKind}
use Rattle.lexlook_check.specs.declared.notices.NoticeKind.TheVariants.{LettersAsBytes, LetterAlone, Backspace, CaseRange, LineWalk, FlexTrail, BarTrail, EndAgain, NamedTrail, EmptyHead, IdleEnd, LoneReturn, UnusedDefinition, NeverEntered, NeverLeft, DefaultRule}
use Rattle.lexlook_check.specs.declared.places.SourceFile.{SourceFile}

-- the column of a place, from 1, where one is told
abbrev pub column_words : Option ℕ → List ℕ
column_words None = []
column_words (Some at) = codes ":" ++ decimal (at + 1)

-- a fault or a limit is an error, and so is a byte that is copied where none is to be
abbrev pub severity_words : What → List ℕ
severity_words (Fault kind) = codes "error"
severity_words (Limit e weights) = codes "error"
severity_words (Copied byte) = codes "error"
severity_words (Warned code) = codes "warning"
severity_words (Noticed kind) = codes "warning"

-- what is warned of beside what lex warns of
abbrev pub notice_words : NoticeKind → List ℕ
notice_words LettersAsBytes = codes "letters of a class as bytes"
notice_words LetterAlone = codes "letter behind a backslash"
notice_words Backspace = codes "backspace by its escape"
notice_words CaseRange = codes "range from an upper to a lower case letter"
notice_words LineWalk = codes "line walked at each byte"
notice_words FlexTrail = codes "trailing context that flex takes otherwise"
notice_words BarTrail = codes "trailing context behind a rule with a bar"
notice_words EndAgain = codes "end rule that does not end the scan"
notice_words NamedTrail = codes "definition with a bar at the end of a trailing context"
notice_words EmptyHead = codes "trailing context behind what may be empty"
notice_words IdleEnd = codes "end rule that serves no condition"
notice_words LoneReturn = codes "carriage return that ends no line"
notice_words UnusedDefinition = codes "definition that no pattern uses"
notice_words NeverEntered = codes "condition that no action enters"
notice_words NeverLeft = codes "condition that no action leaves"
notice_words (DefaultRule byte) = codes "default rule in an exclusive condition"

-- what it is called: a fault as by lex, without its place (that the default rule can be matched flex says with -s)
abbrev pub what_words : What → List ℕ
what_words (Fault kind) = kind_name kind
what_words (Limit e weights) = build_words e
what_words (Copied byte) = codes "default rule can be matched"
what_words (Warned code) = warning_words code
what_words (Noticed kind) = notice_words kind

-- what is expected there, or to be known
abbrev pub hint_of : What → Option (List ℕ)
hint_of (Fault kind) = Some (definition_hint kind)
hint_of (Limit e weights) = Some (limit_hint e)
hint_of (Copied byte) = Some (notice_hint (DefaultRule byte))
hint_of (Warned code) = None
hint_of (Noticed kind) = Some (notice_hint kind)

-- below a line with this number: where something is expected, the line as it stands, and that
abbrev pub detail_words : ℕ → List ℕ → Option ℕ → Option (List ℕ) → List ℕ
detail_words number line at None = []
detail_words number line at (Some hint) = source_words number line at ++ hint_words number hint

-- the first line of what was found: its place, whether it is an error, and what it is called
abbrev pub head_words : List SourceFile → Finding → Option ℕ → List ℕ
head_words files f at =
    concat (file_line_words files f.line ∷ column_words at ∷ codes ": " ∷ severity_words f.what ∷ codes ": "
    ∷ what_words f.what ∷ codes "\n" ∷ [])

-- the line of what was found, where it is shown
abbrev pub shown_line : List ℕ → Finding → List ℕ
shown_line text f = if is_none (hint_of f.what) && not (is_useless f.what) then [] else text_line f.line text

-- what is said of the word at the place in this line of the text, where that is defined or declared, and how many
-- positions there are where a limit is passed
abbrev pub said_words : List SourceFile → List ℕ → What → Option ℕ → List ℕ → List ℕ
said_words files text what at line =
    let lines = known_lines text in
    front_words lines what at line ++ home_told files lines what at line ++ limit_told files what

-- what is told below: that, what is known of what stands there, and what is expected there
abbrev pub full_hint : List SourceFile → List ℕ → What → Option ℕ → List ℕ → Option (List ℕ)
full_hint files text what at line =
    option_map (λ hint. said_words files text what at line ++ remark_told text what at line ++ hint) (hint_of what)

-- the same, or of a rule that cannot be matched by which its texts are taken
abbrev pub whole_hint : List SourceFile → List ℕ → List TakenTexts → Finding → Option ℕ → List ℕ → Option (List ℕ)
whole_hint files text ts f at line =
    elim (taking_for ts f) [ None ↦ full_hint files text f.what at line | Some t ↦ Some (taken_words files t) ]

-- the lines of what was found of a text
abbrev pub finding_lines : List SourceFile → List ℕ → List TakenTexts → Finding → List ℕ
finding_lines files text ts f =
    let line = shown_line text f in
    let at = place_in f.at line in
    head_words files f at ++ detail_words (line_place files f.line).1 line at (whole_hint files text ts f at line)
