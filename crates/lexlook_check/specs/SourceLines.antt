-- The line of a fault as it stands in its file, with a mark under its place. (This project's, in the form of compilers
-- of Rust.)
use Rattle.std.specs.Prelude.{ℕ, ◌+◌, ◌-◌, ◌==◌, nat_le, if◌then◌else◌, List, [], ◌∷◌, map, take, length, Option, Some, None, codes, decimal}
use Rattle.std.specs.List.{concat}
use Rattle.lexspec_lines.specs.Lines.{line_in}

-- the line n, from 1, without its newline; nothing where there is none
abbrev pub text_line : ℕ → List ℕ → List ℕ
text_line n [] = []
text_line n (c ∷ t) = if n == 1 then (line_in (c ∷ t)).0 else text_line (if c == 10 then n - 1 else n) t

-- so many bytes of the line stand before a place, where it has as many
abbrev pub offset_in : ℕ → List ℕ → Option ℕ
offset_in at line = if nat_le at (length line) then Some at else None

-- the same of a place that may not be told
abbrev pub place_in : Option ℕ → List ℕ → Option ℕ
place_in None line = None
place_in (Some at) line = offset_in at line

-- how many bytes stand before the end of so many at a place of the line, where it has as many, and else before its own
-- end
abbrev pub end_of_span : ℕ → ℕ → List ℕ → ℕ
end_of_span at size line = if nat_le size (length line - at) then at + size else length line

-- what stands under bytes before the mark: a tab under a tab, and a blank under any other
abbrev pub under : List ℕ → List ℕ
under bytes = map (λ c. if c == 9 then 9 else 32) bytes

-- the mark, under a line with this number
abbrev pub mark_words : ℕ → List ℕ → Option ℕ → List ℕ
mark_words n line None = []
mark_words n line (Some at) =
    concat (codes "    " ∷ under (decimal n) ∷ codes " | " ∷ under (take at line) ∷ codes "^\n" ∷ [])

-- the line, with its number, and the mark
abbrev pub source_words : ℕ → List ℕ → Option ℕ → List ℕ
source_words n line at =
    if length line == 0 then []
    else concat (codes "    " ∷ decimal n ∷ codes " | " ∷ line ∷ codes "\n" ∷ mark_words n line at ∷ [])
