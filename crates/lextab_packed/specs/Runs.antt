-- Runs of bytes over which a machine stays in one state. (This project's.)
use Rattle.std.specs.Prelude.{◌≡◌, ℕ, ◌<◌, ◌≤◌, true, List, length, slice_index}
use Rattle.lex_semantics.specs.Machine.{Machine}

-- Each byte from one place to another leads from the state to itself, where the machine goes on, and the byte after
-- them, if there is one, does not.
pub record IsRun (M : Machine) (s : ℕ) (bytes : List ℕ) (start end : ℕ) : Type 0 where
  pub order : start ≤ end
  pub inside : end ≤ length bytes
  pub stays : (i : ℕ) → start ≤ i → i < end → M.next s (slice_index bytes i) ≡ s
  pub goes_on : start < end → M.goes_on s ≡ true
  pub leaves : end < length bytes → M.goes_on s ≡ true → M.next s (slice_index bytes end) ≡ s → ⊥

-- The same, and nothing is said of the byte after them.
pub record Stays (M : Machine) (s : ℕ) (bytes : List ℕ) (start end : ℕ) : Type 0 where
  pub order : start ≤ end
  pub inside : end ≤ length bytes
  pub stays : (i : ℕ) → start ≤ i → i < end → M.next s (slice_index bytes i) ≡ s
  pub goes_on : start < end → M.goes_on s ≡ true
