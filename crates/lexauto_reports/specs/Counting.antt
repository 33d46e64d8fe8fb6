-- An automaton whose states also tell how many bytes were read: 3 s + n is the state s after n bytes, where n is 2 for
-- two bytes and more. (This project's.)
use Rattle.std.specs.Prelude.{◌≡◌, ℕ, ◌+◌, ◌*◌, ◌/◌, ◌%◌, ◌<◌, min, Bool, List, [], ◌∷◌}
use Rattle.lex_semantics.specs.Text.{IsText}
use Rattle.lexauto_dfa.specs.Parts.{conditions, start, next}
use Rattle.lexauto_dfa.specs.declared.dfa.Parts.{Parts}

-- after one byte more
abbrev pub step : Parts → ℕ → ℕ → ℕ
step p x b = 3 * next p (x / 3) b + min (x % 3 + 1) 2

abbrev pub walk : Parts → ℕ → List ℕ → ℕ
walk p x [] = x
walk p x (b ∷ w) = walk p (step p x b) w

-- a start of one of the first n conditions, before any byte
abbrev pub IsStartBelow : Parts → ℕ → ℕ → Type 0
IsStartBelow p n x = (c : ℕ) × (line_start : Bool) × (c < n) × (x ≡ 3 * start p c line_start)

abbrev pub IsStart : Parts → ℕ → Type 0
IsStart p = IsStartBelow p (conditions p)

-- the word leads to the state from a start
abbrev pub LeadsTo : Parts → List ℕ → ℕ → Type 0
LeadsTo p w x = (y : ℕ) × IsStart p y × IsText w × (walk p y w ≡ x)
