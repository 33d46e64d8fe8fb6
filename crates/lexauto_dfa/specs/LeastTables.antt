-- The words of `Least` over one list of starts and one table, by which the steps are told.
use Rattle.std.specs.Prelude.{◌≡◌, ◌≢◌, ℕ, ◌+◌, ◌-◌, ◌*◌, ◌<◌, List, [], ◌∷◌, ◌++◌, length, slice_index, slice_index_or}
pub use Rattle.lex_semantics.specs.Text.{IsText}
use Rattle.lexauto_dfa.specs.Numbering.{InOrder}

pub record Automaton : Type 0 where
  pub states : ℕ
  -- condition by condition, elsewhere and then at the start of a line
  pub starts : List ℕ
  -- for each state its targets by the bytes from 0 to 255
  pub table : List ℕ
  -- for each state the rules that it accepts
  pub lists : List (List ℕ)

abbrev pub next : Automaton → ℕ → ℕ → ℕ
next A s b = slice_index A.table (s * 256 + b)

abbrev pub accepts : Automaton → ℕ → List ℕ
accepts A s = slice_index_or A.lists s []

abbrev pub after : Automaton → ℕ → List ℕ → ℕ
after A s [] = s
after A s (b ∷ w) = after A (next A s b) w

-- the table has all the states, and no others
pub record IsWhole (A : Automaton) : Type 0 where
  pub some : 0 < A.states
  pub rows : length A.table ≡ 256 * A.states
  pub all : length A.lists ≡ A.states
  pub starts_known : (i : ℕ) → i < length A.starts → slice_index A.starts i < A.states
  pub targets_known : (i : ℕ) → i < length A.table → slice_index A.table i < A.states

-- after each continuation the same rules are accepted
abbrev pub SameFuture : Automaton → ℕ → Automaton → ℕ → Type 0
SameFuture A s B t = (w : List ℕ) → IsText w → accepts A (after A s w) ≡ accepts B (after B t w)

-- some continuation after which other rules are accepted
abbrev pub AreToldApart : Automaton → ℕ → ℕ → Type 0
AreToldApart A s t = (w : List ℕ) × IsText w × (accepts A (after A s w) ≢ accepts A (after A t w))

-- no continuation is accepted
abbrev pub IsDead : Automaton → ℕ → Type 0
IsDead A s = (w : List ℕ) → IsText w → accepts A (after A s w) ≡ []

-- some word leads there from a start
abbrev pub IsReached : Automaton → ℕ → Type 0
IsReached A s = (i : ℕ) × (w : List ℕ) × (i < length A.starts) × IsText w × (after A (slice_index A.starts i) w ≡ s)

-- one state for each class of words with equal futures; state 0 is that of the words without any
pub record IsLeast (A : Automaton) : Type 0 where
  pub dead : IsDead A 0
  pub reached : (s : ℕ) → s < A.states → s ≢ 0 → IsReached A s
  pub apart : (s t : ℕ) → s < A.states → t < A.states → s ≢ t → AreToldApart A s t

-- Numbers from 1 in the order of the first call: by the starts, and then by the states in order of number, byte by
-- byte.
abbrev pub IsNumbered : Automaton → Type 0
IsNumbered A = InOrder 0 (A.starts ++ A.table) (A.states - 1)

-- there is one such automaton
abbrev pub OneTable : Type 0
OneTable = (A B : Automaton) → IsWhole A → IsWhole B → IsLeast A → IsLeast B → IsNumbered A → IsNumbered B
    → length A.starts ≡ length B.starts
    → ((i : ℕ) → i < length A.starts → SameFuture A (slice_index A.starts i) B (slice_index B.starts i))
    → (A.states ≡ B.states) × (A.starts ≡ B.starts) × (A.table ≡ B.table) × (A.lists ≡ B.lists)
