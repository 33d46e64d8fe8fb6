-- The bytes that positions read, a set for each. (This project's.)
use Rattle.std.specs.Prelude.{ℕ, ◌+◌, ◌||◌, ◌&&◌, ◌==◌, Bool, false, List, [], ◌∷◌}
use Rattle.lex_semantics.specs.ByteSets.{ByteSet, has}

-- The position q is of one of the sets, counted from base, and reads the byte.
abbrev pub reads_at : List ByteSet → ℕ → ℕ → ℕ → Bool
reads_at [] b q base = false
reads_at (s ∷ letters) b q base = (has s b && (q == base)) || reads_at letters b q (base + 1)
