-- A text as it is told: in quotes, with where a match of it starts. (This project's.)
use Rattle.std.specs.Prelude.{Bool, true, false, ℕ, List, [], ◌∷◌, codes, slice_index_or}
use Rattle.std.specs.List.{concat, flat_map}
use Rattle.lexlook_specs.specs.Pictures.{in_quotes}
use Rattle.lexlook_specs.specs.declared.words.finding.ShownText.{ShownText}

abbrev pub line_start_words : Bool → List ℕ
line_start_words true = codes " at the start of a line"
line_start_words false = []

-- a text, in which condition, and where a match of it is at the start of a line
abbrev pub text_and_start : List (List ℕ) → ShownText → List ℕ
text_and_start names p = concat (
    codes ": \"" ∷ flat_map in_quotes p.text.items ∷ codes "\" in " ∷ slice_index_or names p.condition []
    ∷ line_start_words p.line_start
    ∷ codes "\n" ∷ [])
