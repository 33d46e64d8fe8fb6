-- What a match goes through as it looks for the longest text. (POSIX, lex, Rules in lex: the longest match; the words
-- are this project's.)
use Rattle.std.specs.Prelude.{◌≡◌, ◌≢◌, ℕ, List, ◌∷◌, ◌++◌}
use Rattle.lexauto_dfa.specs.Parts.{after, next}
use Rattle.lexauto_dfa.specs.declared.dfa.Parts.{Parts}

-- from a state on, a front of the text leads to this one, which is not the dead one
abbrev pub ComesTo : Parts → ℕ → List ℕ → ℕ → Type 0
ComesTo p s w q = (front : List ℕ) × (rest : List ℕ) × (w ≡ front ++ rest) × (after p s front ≡ q) × (q ≢ 0)

-- from a state on, a front of the text leads to this one, and the byte behind that leads on
abbrev pub GoesBy : Parts → ℕ → List ℕ → ℕ → ℕ → Type 0
GoesBy p s w q b =
    (front : List ℕ) × (rest : List ℕ) × (w ≡ front ++ b ∷ rest) × (after p s front ≡ q) × (next p q b ≢ 0)
