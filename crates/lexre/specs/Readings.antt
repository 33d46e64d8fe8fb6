-- Which positions a reading uses. (This project's; readings number the places of POSIX's patterns.)
use Rattle.std.specs.Prelude.{ℕ, ◌≤◌, ◌<◌, List}
use Rattle.lex_semantics.specs.Positions.{MarkedByte}
use Rattle.lex_semantics.specs.Text.{Among}

-- each position that reads a byte is `from` or more, and less than `end`
abbrev pub UsesFrom : ℕ → ℕ → List MarkedByte → Type 0
UsesFrom from end rs = (c : MarkedByte) → Among rs c → (from ≤ c.1) × (c.1 < end)
