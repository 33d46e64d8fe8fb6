-- The least machine of those that accept alike, and the canonical numbers of its states. (This project's.)
use Rattle.std.specs.Prelude.{◌≡◌, ◌≢◌, ℕ, ◌-◌, ◌<◌, Bool, true, false, List, [], ◌∷◌, ◌++◌, fold, map}
use Rattle.std.specs.List.{flat_map, range_with_len}
use Rattle.lex_semantics.specs.Text.{IsText}
use Rattle.lex_semantics.specs.Machine.{Machine, state_after}
use Rattle.lexauto_dfa.specs.Numbering.{InOrder}

-- some word leads to the state from a start
abbrev pub IsReached : Machine → ℕ → Type 0
IsReached M s =
    (c : ℕ) × (line_start : Bool) × (w : List ℕ) × (c < M.conditions) × IsText w × (state_after M c line_start w ≡ s)

-- some continuation, perhaps the empty one, after which other rules are accepted
abbrev pub AreToldApart : Machine → ℕ → ℕ → Type 0
AreToldApart M s t = (w : List ℕ) × IsText w × (M.accepts (fold M.next s w) ≢ M.accepts (fold M.next t w))

-- of n states each but the dead one is reached, and continuations tell each two apart
pub record IsLeastMachine (M : Machine) (n : ℕ) : Type 0 where
  pub reached : (s : ℕ) → s < n → s ≢ 0 → IsReached M s
  pub apart : (s t : ℕ) → s < n → t < n → s ≢ t → AreToldApart M s t

-- The n states but the dead one are numbered from 1 in the order of their first calls. They are called by the starts,
-- condition by condition, elsewhere and then at the start of a line, and then by the states in order of number, byte by
-- byte.
abbrev pub IsNumberedMachine : Machine → ℕ → Type 0
IsNumberedMachine M n =
    InOrder 0 (flat_map (λ c. M.start c false ∷ M.start c true ∷ []) (range_with_len 0 M.conditions)
    ++ flat_map (λ s. map (M.next s) (range_with_len 0 256)) (range_with_len 0 n)) (n - 1)
