-- What was found as JSON, an object a line. (RFC 8259, Strings: a quote, a backslash and control characters are
-- escaped.)
use Rattle.std.specs.Prelude.{ℕ, ◌+◌, ◌/◌, ◌%◌, ◌==◌, ◌&&◌, ◌||◌, Bool, true, false, not, nat_lt, nat_le, if◌then◌else◌, List, [], ◌∷◌, ◌++◌, flat_map, slice_index, Option, Some, None, option_map, codes, decimal}
use Rattle.std.specs.List.{concat}
use Rattle.std.specs.Str.{is_utf8}
use Rattle.lexre_bytes.specs.RefusalNames.{kind_name}
use Rattle.lexkit.specs.Faults.{build_words}
use Rattle.lexlook_check.specs.CheckLines.{severity_words, shown_line, what_words, whole_hint}
use Rattle.lexlook_check.specs.Places.{line_place}
use Rattle.lexlook_check.specs.SourceLines.{end_of_span, place_in}
use Rattle.lexlook_check.specs.Takings.{TakenTexts}
use Rattle.lexlook_check.specs.declared.findings.Finding.{Finding}
use Rattle.lexlook_check.specs.declared.findings.What.{What}
use Rattle.lexlook_check.specs.declared.findings.What.TheVariants.{Copied, Fault, Limit, Noticed, Warned}
use Rattle.lexlook_check.specs.declared.notices.NoticeKind.TheVariants.{LettersAsBytes, LetterAlone, Backspace, CaseRange, LineWalk, FlexTrail, BarTrail, EndAgain, NamedTrail, EmptyHead, IdleEnd, LoneReturn, UnusedDefinition, NeverEntered, NeverLeft, DefaultRule}
use Rattle.lexlook_check.specs.declared.places.SourceFile.{SourceFile}

-- the code point of this number below 256, as an escape
abbrev pub escape : ℕ → List ℕ
escape b =
    codes "\\u00" ++ slice_index (codes "0123456789abcdef") (b / 16) ∷ slice_index (codes "0123456789abcdef") (b % 16)
    ∷ []

-- a byte of a string; `whole` where the string is UTF-8, and then bytes from 128 on stand as they are
abbrev pub string_byte : Bool → ℕ → List ℕ
string_byte whole b =
    if (b == 34) || (b == 92) then 92 ∷ b ∷ []
    else if nat_lt b 32 || (nat_le 128 b && not whole) then escape b
    else b ∷ []

-- a string. Where it is no UTF-8, each byte from 128 on is the code point of this number.
abbrev pub json_string : List ℕ → List ℕ
json_string t = concat (codes "\"" ∷ flat_map (string_byte (is_utf8 t)) t ∷ codes "\"" ∷ [])

-- a name with what stands before it, and a string
abbrev pub string_field : List ℕ → List ℕ → List ℕ
string_field front t = front ++ json_string t

-- the same and a number, or null where there is none
abbrev pub number_field : List ℕ → Option ℕ → List ℕ
number_field front None = front ++ codes "null"
number_field front (Some n) = front ++ decimal n

-- the name of what was found, which has no blanks
abbrev pub what_name : What → List ℕ
what_name (Fault kind) = kind_name kind
what_name (Limit e weights) = build_words e
what_name (Copied byte) = codes "DefaultRule"
what_name (Warned true) = codes "SkippedCode"
what_name (Warned false) = codes "UselessRule"
what_name (Noticed LettersAsBytes) = codes "LettersAsBytes"
what_name (Noticed LetterAlone) = codes "LetterAlone"
what_name (Noticed Backspace) = codes "Backspace"
what_name (Noticed CaseRange) = codes "CaseRange"
what_name (Noticed LineWalk) = codes "LineWalk"
what_name (Noticed FlexTrail) = codes "FlexTrail"
what_name (Noticed BarTrail) = codes "BarTrail"
what_name (Noticed EndAgain) = codes "EndAgain"
what_name (Noticed NamedTrail) = codes "NamedTrail"
what_name (Noticed EmptyHead) = codes "EmptyHead"
what_name (Noticed IdleEnd) = codes "IdleEnd"
what_name (Noticed LoneReturn) = codes "LoneReturn"
what_name (Noticed UnusedDefinition) = codes "UnusedDefinition"
what_name (Noticed NeverEntered) = codes "NeverEntered"
what_name (Noticed NeverLeft) = codes "NeverLeft"
what_name (Noticed (DefaultRule byte)) = codes "DefaultRule"

-- the line of a place is told but for the whole
abbrev pub known_line : ℕ → Option ℕ
known_line n = if n == 0 then None else Some n

-- The fields of a place in this line: the file and the line there, the column from 1, and the one behind the last.
abbrev pub place_fields : List SourceFile → List ℕ → Finding → List ℕ
place_fields files line f =
    let place = line_place files f.line in
    let at = place_in f.at line in
    concat (string_field (codes "{\"file\":") place.0
    ∷ number_field (codes ",\"line\":") (known_line place.1)
    ∷ number_field (codes ",\"column\":") (option_map (λ n. n + 1) at)
    ∷ number_field (codes ",\"end_column\":") (option_map (λ n. end_of_span n f.size line + 1) at) ∷ [])

-- the fields of what is expected in this line, where something is
abbrev pub hint_fields : List ℕ → Option (List ℕ) → List ℕ
hint_fields line None = codes ",\"hint\":null,\"text\":null"
hint_fields line (Some hint) = string_field (codes ",\"hint\":") hint ++ string_field (codes ",\"text\":") line

-- the fields of what was found in this line, of which this is told
abbrev pub what_fields : List ℕ → What → Option (List ℕ) → List ℕ
what_fields line what hint =
    concat (string_field (codes ",\"severity\":") (severity_words what)
    ∷ string_field (codes ",\"kind\":") (what_name what)
    ∷ string_field (codes ",\"message\":") (what_words what)
    ∷ hint_fields line hint
    ∷ codes "}\n" ∷ [])

-- what was found of a text, as an object
abbrev pub finding_json : List SourceFile → List ℕ → List TakenTexts → Finding → List ℕ
finding_json files text ts f =
    let line = shown_line text f in
    place_fields files line f ++ what_fields line f.what (whole_hint files text ts f (place_in f.at line) line)
