-- The limits on patterns. (This project's.)
use Rattle.std.specs.Prelude.{ℕ}

-- how many nodes a tree may have
abbrev pub max_nodes : ℕ
max_nodes = 65536

-- how many parentheses and names may be open at one place
abbrev pub max_open : ℕ
max_open = 64

-- how many signs of repetition an item may have, or a whole series
abbrev pub max_signs : ℕ
max_signs = 64
