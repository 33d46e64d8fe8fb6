-- What enters a part of a position automaton in one step, and what leaves it. (This project's.)
use Rattle.std.specs.Prelude.{ℕ, ◌⊎◌}
use Rattle.lexauto_positions.specs.PositionAutomaton.{Quad}

-- i: the part is entered from outside. S: the positions left by the word so far.
-- the part is left at its end
abbrev pub Exits : Quad → Type 0 → (ℕ → Type 0) → Type 0
Exits x i S = (i × x.null) ⊎ ((p : ℕ) × S p × x.last p)

-- the position q is next
abbrev pub Enters : Quad → Type 0 → (ℕ → Type 0) → ℕ → Type 0
Enters x i S q = (i × x.first q) ⊎ ((p : ℕ) × S p × x.follow p q)
