-- What a work list finds. (This project's.)
use Rattle.std.specs.Prelude.{◌≡◌, ℕ, ◌+◌, ◌-◌, ◌*◌, ◌/◌, ◌%◌, ◌<◌, ◌≤◌, Bool, false, List, [], ◌∷◌, length, Option, slice_index, slice_index_or, not}
use Rattle.lex_semantics.specs.ByteSets.{has}
use Rattle.lex_semantics.specs.Text.{IsText}
use Rattle.lexauto.specs.Keys.{Key, At, Apart, Finds}
use Rattle.lex_semantics.specs.Reading.{is_empty}

-- the step of a key by a byte: what follows it, and reads the byte
abbrev pub step_by : (Key → Key) → (Key → ℕ → Key) → Key → ℕ → Key
step_by follow read k b = read (follow k) b

-- the key after a word
abbrev pub run : (Key → ℕ → Key) → Key → List ℕ → Key
run step k [] = k
run step k (b ∷ w) = run step (step k b) w

-- some word leads from one of the roots to the key
abbrev pub Reached : (Key → ℕ → Key) → List Key → Key → Type 0
Reached step roots k = (i : ℕ) × (root : Key) × At roots i root × ((w : List ℕ) × IsText w × (run step root w ≡ k))

-- these keys are all that are reached, each once, the roots first, and their moves are the steps
pub record IsExplored (step : Key → ℕ → Key) (roots : List Key) (keys : List Key) (next : List ℕ) : Type 0 where
  pub starts : (i : ℕ) (k : Key) → At roots i k → At keys i k
  pub apart : Apart keys
  pub only : (i : ℕ) (k : Key) → At keys i k → Reached step roots k
  pub all : (k : Key) → Reached step roots k → (i : ℕ) × At keys i k
  pub moves : (i b : ℕ) (k : Key) → b < 256 → At keys i k → At keys (slice_index next (i * 256 + b)) (step k b)
  pub len : length next ≡ 256 * length keys

-- there are more than n keys of which P holds
abbrev pub MoreThan : ℕ → (Key → Type 0) → Type 0
MoreThan n P = (keys : List Key) × (n < length keys) × Apart keys × ((i : ℕ) (k : Key) → At keys i k → P k)

abbrev pub key_at : List Key → ℕ → Key
key_at keys i = slice_index_or keys i []

-- the keys so far are reached, and the moves so far are the steps, in order of key and byte
pub record Exploring (step : Key → ℕ → Key) (roots : List Key) (find : Key → Option ℕ) (keys : List Key) (next : List ℕ)
    (limit : ℕ) : Type 0 where
  pub finds : Finds find keys
  pub starts : (i : ℕ) (k : Key) → At roots i k → At keys i k
  pub only : (i : ℕ) (k : Key) → At keys i k → Reached step roots k
  pub moves : (j : ℕ) → j < length next → At keys (slice_index next j) (step (key_at keys (j / 256)) (j % 256))
  pub behind : length next ≤ 256 * length keys
  pub room : length keys ≤ limit

-- for each key, what f tells of it
pub record AreImages {A : Type 0} (none : A) (f : Key → A) (keys : List Key) (told : List A) : Type 0 where
  pub len : length told ≡ length keys
  pub each : (i : ℕ) (k : Key) → At keys i k → slice_index_or told i none ≡ f k

-- for each key, whether something follows it
abbrev pub goes_by : (Key → Key) → Key → Bool
goes_by follow k = not (is_empty (follow k))

abbrev pub GoOn : (Key → Key) → List Key → List Bool → Type 0
GoOn follow = AreImages false (goes_by follow)

-- what follows a key that has some of its moves, but not all
abbrev pub Held : (Key → Key) → List Key → List ℕ → Key → Type 0
Held follow keys next held = 0 < length next % 256 → held ≡ follow (key_at keys (length next / 256))

-- the bytes among which are all that what follows reads otherwise than the byte before
abbrev pub Changes : (Key → ℕ → Key) → Key → ℕ → Type 0
Changes read followers changes =
    (b : ℕ) → 1 ≤ b → b < 256 → has changes b ≡ false → read followers (b - 1) ≡ read followers b

-- for each key that has some of its moves, what f tells of it
pub record TellsSoFar {A : Type 0} (none : A) (f : Key → A) (keys : List Key) (next : List ℕ)
    (told : List A) : Type 0 where
  pub len : length told ≡ (length next + 255) / 256
  pub each : (i : ℕ) → i < length told → slice_index_or told i none ≡ f (key_at keys i)
