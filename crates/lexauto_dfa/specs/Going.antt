-- Cutting one touched block after another.
use Rattle.std.specs.Prelude.{◌≡◌, ◌≢◌, ◌⊎◌, ◌↔◌, ℕ, ◌+◌, ◌<◌, ◌≤◌, Bool, true, List, length, slice_index}
use Rattle.lexauto_dfa.specs.declared.least.blocks.Blocks.{Blocks}
use Rattle.lexauto_dfa.specs.Arranged.{Arranged, IsTouched, IsMarked, states, count, block_of}
use Rattle.lexauto_dfa.specs.Sources.{Has}

-- Some of the blocks with marked states were cut: those that are still touched are to be cut. `m` says which states
-- are marked, and the lists which blocks wait.
pub record Going (old : Blocks) (waited : List ℕ) (now : Blocks) (waiting : List ℕ) (m : ℕ → Bool) : Type 0 where
  pub finer : (x y : ℕ) → x < states old → y < states old → block_of now x ≡ block_of now y
      → block_of old x ≡ block_of old y
  pub done : (x y : ℕ) → x < states old → y < states old → block_of now x ≡ block_of now y
      → (IsTouched now (block_of now x) → ⊥) → m x ≡ m y
  pub rest : (x : ℕ) → x < states old → IsTouched now (block_of now x) → IsMarked now x ↔ (m x ≡ true)
  pub no_finer : (x y : ℕ) → x < states old → y < states old → block_of old x ≡ block_of old y → m x ≡ m y
      → block_of now x ≡ block_of now y
  pub waits : (x : ℕ) → x < states old → Has waited (block_of old x) → Has waiting (block_of now x)
  pub one_waits : (x y : ℕ) → x < states old → y < states old → block_of old x ≡ block_of old y
      → block_of now x ≢ block_of now y
      → Has waiting (block_of now x) ⊎ Has waiting (block_of now y)

-- what holds between two cuts: each block is a stretch, none has marked states, and what waits are blocks
pub record AreReady (b : Blocks) (waiting : List ℕ) : Type 0 where
  pub arranged : Arranged b
  pub untouched : (c : ℕ) → c < count b → IsTouched b c → ⊥
  pub known : (i : ℕ) → i < length waiting → slice_index waiting i < count b

-- what the counts and lists keep to
pub record Counts (old : Blocks) (waited : List ℕ) (now : Blocks) (waiting : List ℕ) : Type 0 where
  pub same_states : states now ≡ states old
  pub grown : count old ≤ count now
  pub weight : length waiting + count old ≡ length waited + count now
  pub known : (i : ℕ) → i < length waiting → slice_index waiting i < count now
