-- Where code of C was skipped, and which lines tell it. (Code: flex, Format of the Input File; that it is told is this
-- project's.)
use Rattle.std.specs.Prelude.{ℕ, suc, ◌==◌, if◌then◌else◌, List, [], ◌∷◌}
use Rattle.lexspec_lines.specs.DefinitionLines as D
use Rattle.lexspec_lines.specs.DefinitionLines.{DefinitionLine}

-- a line of code, and a block, each by the number of its first line
pub data Code : Type 0 where
  line : ℕ → Code
  block : ℕ → Code

-- each block is told at its first line, and each run of lines at its first; a run would go on at the line `next`
abbrev pub told_lines : ℕ → List Code → List ℕ
told_lines next [] = []
told_lines next (line n ∷ cs) = if next == n then told_lines (suc n) cs else n ∷ told_lines (suc n) cs
told_lines next (block n ∷ cs) = n ∷ told_lines next cs

-- the code that a line of the definitions section is, with its number
abbrev pub code_of_definition : ℕ × DefinitionLine → List Code
code_of_definition (n, D.code_line) = line n ∷ []
code_of_definition (n, D.code_block) = block n ∷ []
code_of_definition _ = []
