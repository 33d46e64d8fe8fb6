-- By which rules the texts of one are taken that cannot be matched, with the first of these texts. (This project's;
-- flex warns of such a rule alone.)
use Rattle.std.specs.Prelude.{ℕ, ◌+◌, ◌/◌, ◌%◌, ◌==◌, ◌&&◌, nat_le, nat_lt, Bool, false, not, if◌then◌else◌, List, [], ◌∷◌, ◌++◌, flat_map, map, length, slice_get, Option, Some, None, unwrap_or, codes}
use Rattle.std.specs.List.{concat, range_with_len}
use Rattle.lexlook_specs.specs.declared.words.finding.Word.{Word}
use Rattle.lexlook_specs.specs.declared.words.finding.Word.TheVariants.{Taken, Never}
use Rattle.lexlook_check.specs.Places.{file_line_words}
use Rattle.lexlook_check.specs.declared.findings.Finding.{Finding}
use Rattle.lexlook_check.specs.declared.findings.What.{What}
use Rattle.lexlook_check.specs.declared.findings.What.TheVariants.{Warned}
use Rattle.lexlook_check.specs.declared.places.SourceFile.{SourceFile}
use Rattle.lexlook_check.specs.declared.takings.Taking.{Taking}

-- the line of a rule, those of the rules that take its texts, and the first text that fits it
abbrev pub TakenTexts : Type 0
TakenTexts = ℕ × List ℕ × List ℕ

-- what a `Taking` stands for
abbrev pub taking_of : Taking → TakenTexts
taking_of t = (t.line, t.by.items, t.text.items)

-- the line of a rule by its number
abbrev pub numbered_line : List ℕ → ℕ → ℕ
numbered_line lines i = unwrap_or (slice_get lines i) 0

-- what is told of rule i, where it takes no text, and one fits it
abbrev pub takings_at : List ℕ → ℕ → Option Word → Option Word → List TakenTexts
takings_at lines i (Some (Never js)) (Some (Taken p)) =
    (numbered_line lines i, map (numbered_line lines) js.items, p.text.items) ∷ []
takings_at lines i taken fits = []

-- of the rules with these lines: what texts each takes, and which fit it
abbrev pub takings_of : List ℕ → List Word → List Word → List TakenTexts
takings_of lines taken fits =
    flat_map (λ i. takings_at lines i (slice_get taken i) (slice_get fits i)) (range_with_len 0 (length lines))

-- a byte of a text: those of ASCII that are shown as they are, and else by a backslash (92) and three octal digits
abbrev pub text_byte : ℕ → List ℕ
text_byte b =
    if nat_le 32 b && nat_lt b 127 then b ∷ []
    else 92 ∷ (48 + b / 64) ∷ (48 + b / 8 % 8) ∷ (48 + b % 8) ∷ []

abbrev pub taken_words : List SourceFile → TakenTexts → List ℕ
taken_words files t =
    concat (codes "its texts are taken at" ∷ flat_map (λ n. codes " " ++ file_line_words files n) t.1 ∷ codes ", as `"
    ∷ flat_map text_byte t.2 ∷ codes "`" ∷ [])

-- what is told of the rule at this line
abbrev pub taking_at : List TakenTexts → ℕ → Option TakenTexts
taking_at [] n = None
taking_at (t ∷ ts) n = if t.0 == n then Some t else taking_at ts n

-- a rule that cannot be matched is warned of
abbrev pub is_useless : What → Bool
is_useless (Warned code) = not code
is_useless other = false

-- what is told of the rule that is warned of
abbrev pub taking_for : List TakenTexts → Finding → Option TakenTexts
taking_for ts f = if is_useless f.what then taking_at ts f.line else None
