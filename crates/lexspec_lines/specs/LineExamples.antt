-- Worked examples of lines, each with what it spells.
use Rattle.std.specs.Prelude.{◌≡◌, ℕ, true, false, List, [], ◌∷◌, Option, Some, None, codes}
use Rattle.lexspec_lines.specs.Lines.{without_returns}
use Rattle.lexspec_lines.specs.DefinitionLines.{DefinitionLine, code_line, code_block, ignored, declares, defines, definition_at, trimmed, is_anchored}

-- a carriage return is dropped before a newline, and nowhere else
abbrev pub ReturnsDropped : Type 0
ReturnsDropped = without_returns (13 ∷ 10 ∷ 65 ∷ 13 ∷ []) ≡ 10 ∷ 65 ∷ 13 ∷ []

-- `a b  ` and `a\  `
abbrev pub BlanksTrimmed : Type 0
BlanksTrimmed = (trimmed (codes "a b  ") ≡ codes "a b") × (trimmed (codes "a\\  ") ≡ codes "a\\ ")

-- `a$`, `^a` and `a\$`
abbrev pub DollarAnchors : Type 0
DollarAnchors =
    (is_anchored (codes "a$") ≡ true) × (is_anchored (codes "^a") ≡ true) × (is_anchored (codes "a\\$") ≡ false)

-- `%x A  B` and `%S A`
abbrev pub Declares : Type 0
Declares =
    ◌≡◌ {A = Option (DefinitionLine × List ℕ)} (definition_at (codes "%x A  B"))
    (Some (declares true (codes "A" ∷ codes "B" ∷ []), []))
    × ◌≡◌ {A = Option (DefinitionLine × List ℕ)} (definition_at (codes "%S A"))
    (Some (declares false (codes "A" ∷ []), []))

-- `D [0-9] `
abbrev pub Defines : Type 0
Defines =
    ◌≡◌ {A = Option (DefinitionLine × List ℕ)} (definition_at (codes "D [0-9] "))
    (Some (defines (codes "D") (codes "[0-9]"), []))

-- A name without a substitute, or with one that is anchored, a `%s` without a name, and a line that begins with `%%`
-- are no definitions.
abbrev pub NoDefinitions : Type 0
NoDefinitions =
    (definition_at (codes "foo") ≡ None) × (definition_at (codes "A ") ≡ None) × (definition_at (codes "A ^a") ≡ None)
    × (definition_at (codes "%s") ≡ None) × (definition_at (codes "%%") ≡ None)

-- `%{` and `%}` on lines of their own
abbrev pub Block : Type 0
Block = ◌≡◌ {A = Option (DefinitionLine × List ℕ)} (definition_at (37 ∷ 123 ∷ 10 ∷ 37 ∷ 125 ∷ []))
    (Some (code_block, []))

-- A comment goes on to the end of the line that closes it. A line of blanks has no effect, and one that begins with a
-- blank is code.
abbrev pub Ignored : Type 0
Ignored =
    ◌≡◌ {A = Option (DefinitionLine × List ℕ)} (definition_at (codes "/* a\nb */ c\nd")) (Some (ignored, codes "d"))
    × ◌≡◌ {A = Option (DefinitionLine × List ℕ)} (definition_at (codes " \na")) (Some (ignored, codes "a"))
    × ◌≡◌ {A = Option (DefinitionLine × List ℕ)} (definition_at (codes " a\nb")) (Some (code_line, codes "b"))
