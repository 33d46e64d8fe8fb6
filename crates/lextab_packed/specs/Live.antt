-- Live states: those from which some text that is not empty leads to a state that accepts. (This project's.)
use Rattle.std.specs.Prelude.{◌≡◌, ◌↔◌, ℕ, ◌+◌, ◌*◌, ◌<◌, ◌≤◌, Bool, true, List, [], ◌∷◌, length, slice_index}
use Rattle.lex_semantics.specs.Text.{IsText, flag}

-- the state after one byte more, where each state has a row of 256 targets
abbrev pub go : List ℕ → ℕ → ℕ → ℕ
go next s b = slice_index next (256 * s + b)

-- the state after a text
abbrev pub after : List ℕ → ℕ → List ℕ → ℕ
after next s [] = s
after next s (b ∷ w) = after next (go next s b) w

-- some byte leads from the state x to this target
abbrev pub GoesTo : List ℕ → ℕ → ℕ → Type 0
GoesTo next target x = (b : ℕ) × (b < 256) × (256 * x + b < length next) × (go next x b ≡ target)

-- some text that is not empty leads from the state to one that accepts
abbrev pub LeadsOn : List ℕ → List Bool → ℕ → Type 0
LeadsOn next accepting s = (w : List ℕ) × IsText w × (1 ≤ length w) × (flag accepting (after next s w) ≡ true)

-- the flags of just the live states
pub record AreLive (next : List ℕ) (accepting live : List Bool) : Type 0 where
  pub one_each : length live ≡ length accepting
  pub each : (s : ℕ) → s < length accepting → (flag live s ≡ true) ↔ ∥ LeadsOn next accepting s ∥₁
