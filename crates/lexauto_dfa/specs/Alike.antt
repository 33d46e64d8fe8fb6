-- Bytes that no state tells apart. (This project's.)
use Rattle.std.specs.Prelude.{◌≡◌, ℕ, ◌+◌, ◌*◌, ◌<◌, ◌≤◌, List, slice_index}

-- the target of each state and byte, 256 to a state
abbrev pub moves : List ℕ → ℕ → ℕ → ℕ
moves next s b = slice_index next (256 * s + b)

-- two bytes are alike where each of n states has the same target for both
abbrev pub Alike : ℕ → (ℕ → ℕ → ℕ) → ℕ → ℕ → Type 0
Alike n go b c = (s : ℕ) → s < n → go s b ≡ go s c

-- l is the first byte that is alike with b
pub record IsLead (n : ℕ) (go : ℕ → ℕ → ℕ) (b l : ℕ) : Type 0 where
  pub at_most : l ≤ b
  pub alike : Alike n go l b
  pub least : (c : ℕ) → c < l → Alike n go c b → ⊥

abbrev pub AreLeads : ℕ → (ℕ → ℕ → ℕ) → List ℕ → Type 0
AreLeads n go lead = (b : ℕ) → b < 256 → IsLead n go b (slice_index lead b)

-- l is the first byte that has the lead and the target of b
pub record IsSplit (leads row : List ℕ) (b l : ℕ) : Type 0 where
  pub at_most : l ≤ b
  pub lead : slice_index leads l ≡ slice_index leads b
  pub target : slice_index row l ≡ slice_index row b
  pub least : (c : ℕ) → c < l → slice_index leads c ≡ slice_index leads b → slice_index row c ≡ slice_index row b → ⊥
