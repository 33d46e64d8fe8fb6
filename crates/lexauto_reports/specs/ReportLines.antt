-- The lines of the reports. (This project's; flex tells the same by its warnings and by -b.)
use Rattle.std.specs.Prelude.{ℕ, ◌==◌, Bool, true, false, ◌||◌, ◌&&◌, nat_le, if◌then◌else◌, List, [], ◌∷◌, ◌++◌, length, codes, decimal}
use Rattle.std.specs.List.{concat, flat_map}
use Rattle.lex_io.specs.Octal.{octal}
use Rattle.lexauto_reports.specs.declared.backup.BackUp.{BackUp}
use Rattle.lexauto_reports.specs.declared.warned.Warning.{Warning}

abbrev pub warning_words : Bool → List ℕ
warning_words true = codes "code skipped"
warning_words false = codes "rule cannot be matched"

abbrev pub warning_line : Warning → List ℕ
warning_line w =
    concat (codes "lex: line " ∷ decimal w.line ∷ codes ": warning: " ∷ warning_words w.code ∷ codes "\n" ∷ [])

abbrev pub warning_lines : List Warning → List ℕ
warning_lines warnings = flat_map warning_line warnings

-- A byte of a word: a quote and a backslash stand after a backslash, and what cannot be printed stands in octal.
abbrev pub shown : ℕ → List ℕ
shown b = if (b == 34) || (b == 92) then 92 ∷ b ∷ [] else if nat_le 32 b && nat_le b 126 then b ∷ [] else octal b

abbrev pub backup_line : BackUp → List ℕ
backup_line e =
    concat (codes "state " ∷ decimal e.state ∷ codes " after \"" ∷ flat_map shown e.word.items ∷ codes "\"\n" ∷ [])

abbrev pub count_line : ℕ → List ℕ
count_line n = concat (codes "states that back up: " ∷ decimal n ∷ codes "\n" ∷ [])

-- a line for each state that backs up, and the count
abbrev pub backup_lines : List BackUp → List ℕ
backup_lines entries = flat_map backup_line entries ++ count_line (length entries)
