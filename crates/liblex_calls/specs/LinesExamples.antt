-- Worked examples of lines and columns. (This project's.)
use Rattle.std.specs.Prelude.{◌≡◌, ℕ, List, codes}
use Rattle.liblex_calls.specs.Lines.{place_line, place_column}

-- the line and the column of a place
abbrev pub HasPlace : List ℕ → ℕ → ℕ → ℕ → Type 0
HasPlace x at line column = (place_line x at ≡ line) × (place_column x at ≡ column)

-- A newline is the last byte of its own line, and the next one begins behind it.
pub record LinesAndColumns : Type 0 where
  pub first : HasPlace (codes "ab\ncd\n") 0 1 1
  pub second_byte : HasPlace (codes "ab\ncd\n") 1 1 2
  pub newline : HasPlace (codes "ab\ncd\n") 2 1 3
  pub next_line : HasPlace (codes "ab\ncd\n") 3 2 1
  pub later : HasPlace (codes "ab\ncd\n") 4 2 2
  pub end : HasPlace (codes "ab\ncd\n") 6 3 1
  pub empty_line : HasPlace (codes "\n\na") 1 2 1
