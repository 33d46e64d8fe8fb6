-- How liveness spreads from states to those that go to them.
use Rattle.std.specs.Prelude.{◌≡◌, ◌⊎◌, ℕ, suc, ◌+◌, ◌≤◌, Bool, true, false, List, [], ◌∷◌, length}
use Rattle.lex_semantics.specs.Text.{flag}
use Rattle.lextab_packed.specs.Inverse.{Has}

-- how many flags are not set
abbrev pub unset : List Bool → ℕ
unset [] = 0
unset (true ∷ flags) = unset flags
unset (false ∷ flags) = suc (unset flags)

-- The states of P are live now, and none but they and those that were live. Those newly live wait, unless they accept
-- and so have waited.
pub record Spreads (P : ℕ → Type 0) (accepting live : List Bool) (waiting : List ℕ) (live' : List Bool)
    (waiting' : List ℕ) : Type 0 where
  pub one_each : length live' ≡ length live
  pub set : (x : ℕ) → P x → flag live' x ≡ true
  pub keeps : (x : ℕ) → flag live x ≡ true → flag live' x ≡ true
  pub only : (x : ℕ) → flag live' x ≡ true → (flag live x ≡ true) ⊎ P x
  pub waits : (x : ℕ) → flag live' x ≡ true → (flag live x ≡ true) ⊎ (flag accepting x ≡ true) ⊎ Has waiting' x
  pub still_waits : (x : ℕ) → Has waiting x → Has waiting' x
  pub waiting_live : (x : ℕ) → Has waiting' x → Has waiting x ⊎ (flag live' x ≡ true)
  pub fewer : length waiting' + unset live' ≤ length waiting + unset live
