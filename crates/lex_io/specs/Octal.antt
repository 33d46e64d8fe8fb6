-- How a byte that cannot be printed is written. (POSIX, lex, Table of Escape Sequences.)
use Rattle.std.specs.Prelude.{ℕ, ◌+◌, ◌/◌, ◌%◌, List, [], ◌∷◌}

-- three octal digits after a backslash
abbrev pub octal : ℕ → List ℕ
octal b = 92 ∷ (48 + b / 64) ∷ (48 + b / 8 % 8) ∷ (48 + b % 8) ∷ []
