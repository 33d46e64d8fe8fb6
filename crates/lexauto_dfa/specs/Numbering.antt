-- Numbers in the order of their first uses. (This project's.)
use Rattle.std.specs.Prelude.{◌≡◌, ◌⊎◌, ℕ, suc, ◌≤◌, List, [], ◌∷◌}

-- The numbers come in order: each is at most n, or else the next one, and so on. In the end m is the greatest.
abbrev pub InOrder : ℕ → List ℕ → ℕ → Type 0
InOrder n [] m = m ≡ n
InOrder n (x ∷ xs) m = ((x ≤ n) × InOrder n xs m) ⊎ ((x ≡ suc n) × InOrder (suc n) xs m)
