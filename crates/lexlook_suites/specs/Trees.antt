-- A search breadth first from one start: the states that it leads to, each with a way to it. (This project's.)
use Rattle.std.specs.Prelude.{◌≡◌, ◌≢◌, ℕ, ◌<◌, ◌≤◌, List, length, Option, Some, slice_index_or}
use Rattle.lexauto_dfa.specs.Parts.{next, states}
use Rattle.lexauto_dfa.specs.declared.dfa.Parts.{Parts}
use Rattle.lexauto_reports.specs.Searching.{place_of}
use Rattle.lexlook_suites.specs.Orders.{byte_at}
use Rattle.lexlook_suites.specs.declared.trees.Step.{Step}

abbrev pub step_at : List Step → ℕ → Step
step_at steps j = slice_index_or steps j (record { state = 0; from = 0; byte = 0 })

abbrev pub state_at : List Step → ℕ → ℕ
state_at steps j = (step_at steps j).state

-- The step at a place: the first is the start, and each later one goes on by a byte from one before it.
pub record IsStep (p : Parts) (a : ℕ) (steps : List Step) (j : ℕ) : Type 0 where
  pub known : state_at steps j < states p
  pub live : state_at steps j ≢ 0
  pub first : j ≡ 0 → state_at steps j ≡ a
  pub before : 1 ≤ j → (step_at steps j).from < j
  pub low : (step_at steps j).byte < 256
  pub leads : 1 ≤ j
      → next p (state_at steps (step_at steps j).from) (step_at steps j).byte ≡ state_at steps j

abbrev pub HasPlace : List (Option ℕ) → ℕ → Type 0
HasPlace places x = (j : ℕ) × (place_of places x ≡ Some j)

-- where the first n bytes in their order lead from the step at a place has a place
abbrev pub IsPast : Parts → List Step → List (Option ℕ) → ℕ → ℕ → Type 0
IsPast p steps places j n = (r : ℕ) → r < n → next p (state_at steps j) (byte_at r) ≢ 0
    → HasPlace places (next p (state_at steps j) (byte_at r))

-- the steps so far, where the first k are done with
pub record IsTree (p : Parts) (a : ℕ) (steps : List Step) (places : List (Option ℕ)) (k : ℕ) : Type 0 where
  pub all : length places ≡ states p
  pub each : (j : ℕ) → j < length steps → IsStep p a steps j
  pub placed : (x j : ℕ) → place_of places x ≡ Some j → (j < length steps) × (state_at steps j ≡ x)
  pub starts : a ≢ 0 → HasPlace places a
  pub past : (j : ℕ) → j < k → IsPast p steps places j 256
