-- A search for what is accepted after a newline, over states of which it is known that all is discarded from there on.
-- (This project's.)
use Rattle.std.specs.Prelude.{◌≡◌, ℕ, ◌<◌, ◌≤◌, Bool, true, List, length, get_or}
use Rattle.lex_semantics.specs.Text.{IsText, Among, flag}
use Rattle.lex_semantics.specs.Machine.{Machine, walk}
use Rattle.lexlook_tables.specs.Lines.{Discards}
use Rattle.lexlook_tables.specs.declared.lines.discarding.Known.{Known}

-- no rule is accepted in the state or further on
abbrev pub AcceptsNoMore : Machine → ℕ → Type 0
AcceptsNoMore M s = (u : List ℕ) (i : ℕ) → IsText u → Among (M.accepts (walk M s u)) i → ⊥

-- each rule that the state accepts discards
abbrev pub DiscardsAt : Machine → ℕ → Type 0
DiscardsAt M s = (i : ℕ) → Among (M.accepts s) i → Discards M i

-- The states found so far, each below n, which are marked. Of those before this place each byte was followed, and each
-- rule that they accept discards.
pub record Explored (M : Machine) (n : ℕ) (found : List ℕ) (marks : List Bool) (place : ℕ) : Type 0 where
  pub size : length marks ≡ n
  pub within : (s : ℕ) → Among found s → s < n
  pub marked : (s : ℕ) → flag marks s ≡ true → Among found s
  pub discards : (i : ℕ) → i < place → DiscardsAt M (get_or found i 0)
  pub closed : (i b : ℕ) → i < place → b < 256 → Among found (M.next (get_or found i 0) b)

-- each byte was followed of each state
abbrev pub IsKnown : Machine → ℕ → Known → Type 0
IsKnown M n known = Explored M n known.found.items known.marks.items (length known.found.items)

-- A search from a state, over these many that were known before: texts lead to the others from there.
pub record SearchFrom (M : Machine) (n s known : ℕ) (found : List ℕ) (marks : List Bool) (place : ℕ) : Type 0 where
  pub explored : Explored M n found marks place
  pub first : Among found s
  pub past : known ≤ place
  pub led : (i : ℕ) → known ≤ i → i < length found → (u : List ℕ) × IsText u × (walk M s u ≡ get_or found i 0)
