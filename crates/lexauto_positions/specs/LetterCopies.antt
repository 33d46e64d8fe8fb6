-- A letter that may be left out or not, as tests that compute: what leaves it, and what enters it. (This project's.)
use Rattle.std.specs.Prelude.{ℕ, ◌||◌, ◌&&◌, ◌==◌, Bool}

abbrev pub letter_exits : Bool → (ℕ → Bool) → ℕ → Bool → Bool
letter_exits skips S base i = (skips && i) || S base

abbrev pub letter_enters : ℕ → ℕ → Bool → Bool
letter_enters q base i = i && (q == base)
