-- When two machines scan alike. (This project's.)
use Rattle.std.specs.Prelude.{◌≡◌, ℕ, List, ◌↔◌}
use Rattle.lex_semantics.specs.Text.{IsText}
use Rattle.lex_semantics.specs.Acting.{Ending}
use Rattle.lex_semantics.specs.Run.{Run}
use Rattle.lex_semantics.specs.Machine.{Machine, rules_of_machine}
use Rattle.lexlook_tables.specs.Same.{number_in}

-- Over each input the two runs write the same bytes, and end alike.
abbrev pub ScanAlike : Machine → Machine → Type 0
ScanAlike M N =
    (x written : List ℕ) (e : Ending) → IsText x → Run (rules_of_machine M) x written e
    ↔ Run (rules_of_machine N) x written e

-- Condition 0, in which a scan begins, has the number 0 in the second machine too (POSIX, Actions in lex: BEGIN).
abbrev pub BeginTogether : List ℕ → Type 0
BeginTogether order = number_in order 0 ≡ 0
