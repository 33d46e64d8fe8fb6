-- Splitting blocks of states, by a work list of splitters.
use Rattle.std.specs.Prelude.{◌≡◌, ◌≢◌, ◌⊎◌, ℕ, ◌<◌, Bool, true, false}
use Rattle.lexauto_dfa.specs.Futures.{Machine, Differ}

-- What holds between two splitters. `block` is the partition so far. `coarse` is a coarser one: the splitters that were
-- used. `waiting` are the blocks that are still to be used.
pub record Refining (m : Machine) (block : ℕ → ℕ) (waiting : ℕ → Type 0) (coarse : ℕ → ℕ) : Type 0 where
  -- blocks accept alike, and differ from one another
  pub alike : (x y : ℕ) → x < m.states → y < m.states → block x ≡ block y → m.accepts x ≡ m.accepts y
  pub apart : (x y : ℕ) → x < m.states → y < m.states → block x ≢ block y → Differ m x y
  -- each block lies in a coarse class
  pub nested : (x y : ℕ) → x < m.states → y < m.states → block x ≡ block y → coarse x ≡ coarse y
  -- a block goes into one coarse class by each letter
  pub stable : (x y a : ℕ) → x < m.states → y < m.states → a < m.letters → block x ≡ block y
      → coarse (m.step x a) ≡ coarse (m.step y a)
  -- of the blocks of a coarse class all but one are waiting
  pub all_but_one : (x y : ℕ) → x < m.states → y < m.states → coarse x ≡ coarse y → block x ≢ block y
      → waiting (block x) ⊎ waiting (block y)

-- What holds while the splitter is used: `inside` are its states, and the letters below k are done.
pub record Using (m : Machine) (block : ℕ → ℕ) (waiting : ℕ → Type 0) (coarse : ℕ → ℕ) (inside : ℕ → Bool)
    (k : ℕ) : Type 0 where
  pub alike : (x y : ℕ) → x < m.states → y < m.states → block x ≡ block y → m.accepts x ≡ m.accepts y
  pub apart : (x y : ℕ) → x < m.states → y < m.states → block x ≢ block y → Differ m x y
  -- the splitter is a coarse class of its own now
  pub nested : (x y : ℕ) → x < m.states → y < m.states → block x ≡ block y → (coarse x ≡ coarse y)
      × (inside x ≡ inside y)
  pub stable : (x y a : ℕ) → x < m.states → y < m.states → a < m.letters → block x ≡ block y
      → coarse (m.step x a) ≡ coarse (m.step y a)
  pub done : (x y a : ℕ) → x < m.states → y < m.states → a < k → block x ≡ block y
      → inside (m.step x a) ≡ inside (m.step y a)
  pub all_but_one : (x y : ℕ) → x < m.states → y < m.states → coarse x ≡ coarse y → inside x ≡ inside y
      → block x ≢ block y → waiting (block x) ⊎ waiting (block y)
  -- what is inside differs from what is outside
  pub differs : (x y : ℕ) → x < m.states → y < m.states → inside x ≡ true → inside y ≡ false → Differ m x y

-- Each block is cut into its marked and its other states. Pieces of a waiting block wait, and of two pieces one waits.
pub record Cuts (n : ℕ) (old new : ℕ → ℕ) (marked : ℕ → Bool) (before after : ℕ → Type 0) : Type 0 where
  pub finer : (x y : ℕ) → x < n → y < n → new x ≡ new y → (old x ≡ old y) × (marked x ≡ marked y)
  pub no_finer : (x y : ℕ) → x < n → y < n → old x ≡ old y → marked x ≡ marked y → new x ≡ new y
  pub waits : (x : ℕ) → x < n → before (old x) → after (new x)
  pub one_waits : (x y : ℕ) → x < n → y < n → old x ≡ old y → new x ≢ new y → after (new x) ⊎ after (new y)
