-- The lines of a text, and which of them define and declare. (flex, Format of the Input File.)
use Rattle.std.specs.Prelude.{ℕ, suc, ◌==◌, ◌&&◌, ◌||◌, Bool, true, false, not, if◌then◌else◌, List, [], ◌∷◌, ◌++◌, take, drop, codes}
use Rattle.std.specs.List.{list_any}
use Rattle.lex_semantics.specs.Reading.{begins, starts_name}
use Rattle.lexlook_text.specs.declared.definitions.LineKind.{LineKind}
use Rattle.lexlook_text.specs.declared.definitions.LineKind.TheVariants.{Definition, Declaration}
use Rattle.lexlook_text.specs.declared.definitions.Within.{Within}
use Rattle.lexlook_text.specs.declared.definitions.Within.TheVariants.{Nothing, Block, Comment}

-- for each line its number, and the text from its first byte on; the first has the number n, and a line begins the text
-- where `fresh`
abbrev pub lines_from : ℕ → Bool → List ℕ → List (ℕ × List ℕ)
lines_from n fresh [] = []
lines_from n fresh (c ∷ t) =
    (if fresh then (n, c ∷ t) ∷ [] else []) ++ lines_from (if c == 10 then suc n else n) (c == 10) t

-- `*/` stands in the line that begins the text
abbrev pub ends_comment : List ℕ → Bool
ends_comment [] = false
ends_comment (c ∷ t) = not (c == 10) && ((c == 42 && begins (codes "/") t) || ends_comment t)

-- within what the line behind this one begins: `%{` opens a block and `%}` ends it, `/*` opens a comment and `*/` ends
-- it
abbrev pub behind_line : Within → List ℕ → Within
behind_line Nothing text =
    if begins (codes "%{") text then Block else if begins (codes "/*") text && not (ends_comment (drop 2 text))
    then Comment else Nothing
behind_line Block text = if begins (codes "%}") text then Nothing else Block
behind_line Comment text = if ends_comment text then Nothing else Comment

-- the line that begins the text is of this kind: a definition begins with a name, and a declaration with `%` (37)
abbrev pub is_of_kind : LineKind → Within → List ℕ → Bool
is_of_kind Definition Nothing text = list_any starts_name (take 1 text)
is_of_kind Declaration Nothing text = list_any (λ c. c == 37) (take 1 text)
is_of_kind kind Block text = false
is_of_kind kind Comment text = false

-- the line that begins the text is the `%%` that ends the section
abbrev pub ends_section : Within → List ℕ → Bool
ends_section Nothing text = begins (codes "%%") text
ends_section Block text = false
ends_section Comment text = false

-- of these lines those of this kind, up to the line that ends the section
abbrev pub section_from : LineKind → Within → List (ℕ × List ℕ) → List (ℕ × List ℕ)
section_from kind within [] = []
section_from kind within (l ∷ ls) =
    if ends_section within l.1 then []
    else (if is_of_kind kind within l.1 then l ∷ [] else []) ++ section_from kind (behind_line within l.1) ls

-- of the lines of a text those of this kind in its definitions section
abbrev pub section_lines : LineKind → List (ℕ × List ℕ) → List (ℕ × List ℕ)
section_lines kind lines = section_from kind Nothing lines

-- the definitions of a text
abbrev pub definition_lines : List ℕ → List (ℕ × List ℕ)
definition_lines text = section_lines Definition (lines_from 1 true text)
