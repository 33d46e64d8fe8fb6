-- Which states go on, as it is found in passes over a table.
use Rattle.std.specs.Prelude.{◌≡◌, ◌⊎◌, ℕ, ◌<◌, ◌≤◌, Bool, true, false, List, length, slice_index}
use Rattle.lex_semantics.specs.Text.{flag}
use Rattle.lex_semantics.specs.MachineLaws.{LeadsToAccept}
use Rattle.lextab_packed.specs.Table.{Table}
use Rattle.lextab_packed.specs.Steps.{step_of, machine_of_table}

-- one of the bytes has this class
abbrev pub HasClass : (class_of bytes : List ℕ) → ℕ → Type 0
HasClass class_of bytes class =
    (k : ℕ) × (k < length bytes) × (slice_index bytes k < 256) × (slice_index class_of (slice_index bytes k) ≡ class)

-- the state accepts, or goes on as far as is known
abbrev pub IsGood : (accepting live : List Bool) → ℕ → Type 0
IsGood accepting live s = (flag accepting s ≡ true) ⊎ (flag live s ≡ true)

-- none of the bytes leads from the state to such a one
abbrev pub LeadsNowhere : Table → (bytes : List ℕ) → (accepting live : List Bool) → ℕ → Type 0
LeadsNowhere t bytes accepting live s =
    (k : ℕ) → k < length bytes → IsGood accepting live (step_of t s (slice_index bytes k)) → ⊥

-- what goes on as far as is known does go on
abbrev pub AllGoOn : Table → List Bool → Type 0
AllGoOn t live = (s : ℕ) → flag live s ≡ true → LeadsToAccept (machine_of_table t (λ q. false)) s

-- each state from this one on goes on as far as is known, or leads nowhere
abbrev pub SettledFrom : Table → (bytes : List ℕ) → (accepting live : List Bool) → ℕ → Type 0
SettledFrom t bytes accepting live n =
    (s : ℕ) → n ≤ s → s < length live → (flag live s ≡ true) ⊎ LeadsNowhere t bytes accepting live s
