-- What marking does.
use Rattle.std.specs.Prelude.{◌≡◌, ◌⊎◌, ℕ, ◌<◌, List, length, slice_index}
use Rattle.lexauto_dfa.specs.declared.least.blocks.Blocks.{Blocks}
use Rattle.lexauto_dfa.specs.Arranged.{IsAlone, IsTouched, IsMarked, states, count}
use Rattle.lexauto_dfa.specs.Sources.{Has}

-- the list notes each block with a marked state, and blocks alone
pub record Notes (touched : List ℕ) (b : Blocks) : Type 0 where
  pub all : (c : ℕ) → c < count b → IsTouched b c → Has touched c
  pub blocks : (i : ℕ) → i < length touched → slice_index touched i < count b

-- The states that meet P were marked besides those that were, but perhaps for some that are alone in their blocks.
pub record Marks (old : Blocks) (P : ℕ → Type 0) (new : Blocks) : Type 0 where
  pub block : new.block ≡ old.block
  pub first : new.first ≡ old.first
  pub marked : (x : ℕ) → x < states old → P x → IsMarked new x ⊎ IsAlone old x
  pub keeps : (x : ℕ) → x < states old → IsMarked old x → IsMarked new x
  pub only : (x : ℕ) → x < states old → IsMarked new x → IsMarked old x ⊎ P x
