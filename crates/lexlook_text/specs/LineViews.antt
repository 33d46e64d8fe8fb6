-- What a `Line` stands for.
use Rattle.std.specs.Prelude.{ℕ, List}
use Rattle.lexlook_text.specs.declared.definitions.Line.{Line}

-- its number, and the text from its first byte on
abbrev pub line_of : Line → ℕ × List ℕ
line_of l = (l.number, l.text.now)
