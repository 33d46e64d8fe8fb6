-- The rows of an automaton, packed in a table: byte classes, defaults, bases and slots. (Aho, Sethi and Ullman,
-- Compilers, 3.9; which of equals is taken is this project's.)
use Rattle.std.specs.Prelude.{◌≡◌, ◌≢◌, ℕ, zero, suc, ◌+◌, ◌<◌, ◌≤◌, ◌⊎◌, ◌↔◌, ◌==◌, cond, List, map, length, slice_index}
use Rattle.std.specs.List.{position_or_len}
use Rattle.lexauto_dfa.specs.Numbering.{InOrder}
use Rattle.lextab_packed.specs.Table.{Table}
use Rattle.lextab_packed.specs.Steps.{row_in, slot_at}

-- where the state s goes by a class: by the first of its bytes
abbrev pub by_class : (ℕ → ℕ → ℕ) → List ℕ → ℕ → ℕ → ℕ
by_class go class_of s k = go s (position_or_len (λ c. c == k) class_of)

-- how many of the first classes of a row go to t
abbrev pub often : (ℕ → ℕ) → ℕ → ℕ → ℕ
often row zero t = 0
often row (suc k) t = often row k t + cond (row k == t) 1 0

-- the target of most classes, the smallest number of equals
pub record IsDefault (row : ℕ → ℕ) (count d : ℕ) : Type 0 where
  pub most : (t : ℕ) → often row count t ≤ often row count d
  pub least : (t : ℕ) → often row count t ≡ often row count d → d ≤ t

-- the class k of the state s has another target than the default
abbrev pub IsException : (ℕ → ℕ → ℕ) → Table → ℕ → ℕ → Type 0
IsException go t s k = (k < t.classes) × (by_class go t.class_of s k ≢ (row_in t s).default_target)

-- an exception of a state before s stands in the slot i
abbrev pub IsTakenIn : (ℕ → ℕ → ℕ) → Table → ℕ → ℕ → Type 0
IsTakenIn go t s i = (r : ℕ) × (k : ℕ) × (r < s) × IsException go t r k × ((row_in t r).base + k ≡ i)

-- the exceptions of the state s, placed from b, fall on free slots
abbrev pub FitsAt : (ℕ → ℕ → ℕ) → Table → ℕ → ℕ → Type 0
FitsAt go t s b = (k : ℕ) → IsException go t s k → IsTakenIn go t s (b + k) → ⊥

-- The table has the moves of n states, packed. Bytes are in one class where each state goes alike by them, and the
-- classes are numbered by their first bytes. The base of a state is the least at which it fits. The last slot is that
-- of the last class of some state. An exception's slot has its state and its target, and every other slot 0 and 0.
pub record IsPacked (n : ℕ) (go : ℕ → ℕ → ℕ) (t : Table) : Type 0 where
  pub bytes : length t.class_of ≡ 256
  pub classes : (b c : ℕ) → b < 256 → c < 256 → (slice_index t.class_of b ≡ slice_index t.class_of c)
      ↔ ((s : ℕ) → s < n → go s b ≡ go s c)
  pub numbered : InOrder 0 (map suc t.class_of) t.classes
  pub rows : length t.rows ≡ n
  pub default : (s : ℕ) → s < n → IsDefault (by_class go t.class_of s) t.classes (row_in t s).default_target
  pub fits : (s : ℕ) → s < n → FitsAt go t s (row_in t s).base
  pub least : (s b : ℕ) → s < n → b < (row_in t s).base → FitsAt go t s b → ⊥
  pub inside : (s : ℕ) → s < n → (row_in t s).base + t.classes ≤ length t.slots
  pub last : (s : ℕ) × (s < n) × ((row_in t s).base + t.classes ≡ length t.slots)
  pub used : (s k : ℕ) → s < n → IsException go t s k
      → slot_at t ((row_in t s).base + k) ≡ record { check = s; next = by_class go t.class_of s k }
  pub unused : (i : ℕ) → IsTakenIn go t n i ⊎ (slot_at t i ≡ record { check = 0; next = 0 })
