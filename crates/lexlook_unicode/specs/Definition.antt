-- The line that defines a name for code points. (POSIX, lex, Definitions in lex. How the name is made is this
-- project's.)
use Rattle.std.specs.Prelude.{◌≡◌, ℕ, ◌==◌, if◌then◌else◌, List, [], ◌∷◌, ◌++◌, codes}
use Rattle.std.specs.List.{flat_map}
use Rattle.lexlook_letters.specs.Text.{SpellsEncodings}
use Rattle.lexlook_letters.specs.declared.ranges.CodeRange.{CodeRange}

-- In a name `!` is `not_`, and `+` is `_`.
abbrev pub name_byte : ℕ → List ℕ
name_byte b = if b == 33 then codes "not_" else if b == 43 then codes "_" else b ∷ []

abbrev pub set_name : List ℕ → List ℕ
set_name word = flat_map name_byte word

-- the sets, with `_or_` between
abbrev pub later_names : List (List ℕ) → List ℕ
later_names [] = []
later_names (word ∷ words) = codes "_or_" ++ (set_name word ++ later_names words)

abbrev pub definition_name : List (List ℕ) → List ℕ
definition_name [] = []
definition_name (word ∷ words) = set_name word ++ later_names words

-- a name of the words, and a pattern of the encodings of some ranges
abbrev pub DefinesLetters : List (List ℕ) → List ℕ → Type 0
DefinesLetters words line = (ranges : List CodeRange) × (text : List ℕ) × SpellsEncodings text ranges
    × (line ≡ definition_name words ++ (codes " " ++ (text ++ codes "\n")))
