-- The files of a specification, and where its lines stand. (This project's; POSIX, lex: files are read in order, as
-- one.)
use Rattle.std.specs.Prelude.{ℕ, ◌+◌, ◌-◌, ◌==◌, ◌||◌, ◌&&◌, Bool, not, nat_le, if◌then◌else◌, List, [], ◌∷◌, ◌++◌, flat_map, length, codes, decimal}
use Rattle.lexspec_lines.specs.Lines.{newlines}
use Rattle.lexspec_lines.specs.Sections.{ends_line}
use Rattle.lexlook_check.specs.declared.places.SourceFile.{SourceFile}

-- the text that the files are together
abbrev pub joined_text : List SourceFile → List ℕ
joined_text files = flat_map (λ f. f.bytes.now) files

-- the line n, from 1, begins in the text: a newline ends it there, or it is the last, and none does
abbrev pub begins_in : List ℕ → ℕ → Bool
begins_in text n = nat_le n (newlines text) || ((n - newlines text == 1) && not (ends_line text))

-- the name of the file in which a line of the whole text begins, and its number there; in the last file stands what
-- begins in none
abbrev pub line_place : List SourceFile → ℕ → List ℕ × ℕ
line_place [] n = ([], n)
line_place (f ∷ fs) n =
    if (length fs == 0) || begins_in f.bytes.now n then (f.name.now, n) else line_place fs (n - newlines f.bytes.now)

abbrev pub last_text : List SourceFile → List ℕ
last_text [] = []
last_text (f ∷ []) = f.bytes.now
last_text (f ∷ g ∷ fs) = last_text (g ∷ fs)

-- the line at which the last file begins: what is defined before it is there for others
abbrev pub own_line : List SourceFile → ℕ
own_line files = 1 + (newlines (joined_text files) - newlines (last_text files))

-- the file and the line there; of line 0, which is the whole, the file alone
abbrev pub file_line_words : List SourceFile → ℕ → List ℕ
file_line_words files n =
    let place = line_place files n in
    place.0 ++ (if place.1 == 0 then [] else codes ":" ++ decimal place.1)
