-- The first blocks: states with one label.
use Rattle.std.specs.Prelude.{◌≡◌, ◌≢◌, ◌⊎◌, ℕ, ◌<◌, ◌≤◌, List, slice_index}
use Rattle.lexauto_dfa.specs.declared.least.blocks.Blocks.{Blocks}
use Rattle.lexauto_dfa.specs.Arranged.{Arranged, states, count, block_of, IsTouched}
use Rattle.lexauto_dfa.specs.Sources.{Has}

-- one block of n states
pub record IsOneBlock (n : ℕ) (b : Blocks) : Type 0 where
  pub arranged : Arranged b
  pub all : states b ≡ n
  pub one : count b ≡ 1
  pub untouched : (c : ℕ) → c < count b → IsTouched b c → ⊥

-- States of one block have one label, or both have a label from l on. All blocks but one wait.
pub record AreAlike (labels : List ℕ) (l : ℕ) (b : Blocks) (waiting : List ℕ) : Type 0 where
  pub same : (x y : ℕ) → x < states b → y < states b → block_of b x ≡ block_of b y
      → (slice_index labels x ≡ slice_index labels y) ⊎ ((l ≤ slice_index labels x) × (l ≤ slice_index labels y))
  pub one : (x y : ℕ) → x < states b → y < states b → slice_index labels x ≡ slice_index labels y
      → block_of b x ≡ block_of b y
  pub rest : (x y : ℕ) → x < states b → y < states b → l ≤ slice_index labels x → l ≤ slice_index labels y
      → block_of b x ≡ block_of b y
  pub wait : (x y : ℕ) → x < states b → y < states b → block_of b x ≢ block_of b y
      → Has waiting (block_of b x) ⊎ Has waiting (block_of b y)
