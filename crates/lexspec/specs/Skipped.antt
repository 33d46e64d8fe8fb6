-- At which lines of a file code of C was skipped. (Code: flex, Format of the Input File; that it is told is this
-- project's.)
use Rattle.std.specs.Prelude.{◌≡◌, ℕ, ◌+◌, ◌-◌, true, not, if◌then◌else◌, List, [], ◌∷◌, ◌++◌, Some, flat_map, codes}
use Rattle.std.specs.List.{list_any}
use Rattle.lex_semantics.specs.Reading.{◌>>=◌, IsReadAs, begins, is_white}
use Rattle.lexspec_lines.specs.Lines.{without_returns, line_in, newlines}
use Rattle.lexspec_lines.specs.DefinitionLines.{DefinitionLine, definition_at}
use Rattle.lexspec_lines.specs.SkippedCode.{Code, told_lines, code_of_definition}
use Rattle.lexspec.specs.Items.{Item, skipped, AreItems}

-- the code that a line of the rules section is, with its number
abbrev pub code_of_item : ℕ × Item → List Code
code_of_item (n, skipped line) = code_of_definition (n, line)
code_of_item _ = []

-- The user section is told at the line of its `%%`, if it has a byte that is neither a blank nor a newline. The text
-- from there on is given, and that line.
abbrev pub user_section : ℕ → List ℕ → List ℕ
user_section n t = if list_any (λ c. not (is_white c)) (line_in t).1 then n ∷ [] else []

-- The lines at which the file has code: those of the definitions, of the rules, and of the user section.
pub record AreSkipped (file lines : List ℕ) : Type 0 where
  pub definitions : List (ℕ × DefinitionLine)
  pub items : List (ℕ × Item)
  pub rest : List ℕ
  pub sections : IsReadAs (λ t. definition_at t >>= λ (d, rest). Some ((1 + newlines file - newlines t, d), rest))
      (λ t. (begins (codes "%%") t ≡ true) × AreItems (2 + newlines file - newlines t) (line_in t).1 items rest)
      (without_returns file) definitions
  pub lines_are : lines ≡ told_lines 0 (flat_map code_of_definition definitions)
      ++ told_lines 0 (flat_map code_of_item items) ++ user_section (1 + newlines file - newlines rest) rest
