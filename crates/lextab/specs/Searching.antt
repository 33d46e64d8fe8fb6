-- What the steps of packing answer, over rows and words. (This project's.)
use Rattle.std.specs.Prelude.{◌≡◌, ◌≢◌, ℕ, ◌+◌, ◌*◌, ◌/◌, ◌%◌, ◌<◌, ◌≤◌, ◌⊎◌, List, length, slice_index}
use Rattle.std.specs.Int.{bit_at}
use Rattle.lexauto_dfa.specs.Alike.{moves}
use Rattle.lextab.specs.Columns.{IsBase, IsEntry, IsTaken}

-- those of the first n classes of a row whose target is not d
pub record AreEntries (row : List ℕ) (d n : ℕ) (ks : List ℕ) : Type 0 where
  pub only : (j : ℕ) → j < length ks → (slice_index ks j < n) × (slice_index row (slice_index ks j) ≢ d)
  pub all : (k : ℕ) → k < n → slice_index row k ≢ d → (j : ℕ) × (j < length ks) × (slice_index ks j ≡ k)

-- the bit i of words of 64 bits
abbrev pub slot_bit : List ℕ → ℕ → ℕ
slot_bit words i = bit_at (slice_index words (i / 64)) (i % 64)

-- some entry placed from b falls on a bit that is set
abbrev pub Hits : List ℕ → List ℕ → ℕ → Type 0
Hits words ks b = (j : ℕ) × (j < length ks) × (slot_bit words (b + slice_index ks j) ≡ 1)

-- all entries placed from b fall on bits that are not set
abbrev pub Misses : List ℕ → List ℕ → ℕ → Type 0
Misses words ks b = (j : ℕ) → j < length ks → slot_bit words (b + slice_index ks j) ≡ 0

pub record IsFirstFit (words ks : List ℕ) (b : ℕ) : Type 0 where
  pub fits : Misses words ks b
  pub first : (c : ℕ) → c < b → Hits words ks c

-- the last five words have no bit that is set
abbrev pub IsFreeAtEnd : List ℕ → Type 0
IsFreeAtEnd words = (i : ℕ) → 64 * length words ≤ i + 320 → slot_bit words i ≡ 0

-- the first words are full, so many, and the last five are free
pub record HasRoom (words : List ℕ) (full : ℕ) : Type 0 where
  pub within : full ≤ length words
  pub taken : (i : ℕ) → i < 64 * full → slot_bit words i ≡ 1
  pub free : IsFreeAtEnd words

-- the first n of the entries, placed from b, are set too
pub record IsMarked (old ks : List ℕ) (b n : ℕ) (new : List ℕ) : Type 0 where
  pub kept : (i : ℕ) → slot_bit old i ≡ 1 → slot_bit new i ≡ 1
  pub set : (j : ℕ) → j < n → slot_bit new (b + slice_index ks j) ≡ 1
  pub only : (i : ℕ) → slot_bit new i ≡ 1 → (slot_bit old i ≡ 1) ⊎ ((j : ℕ) × (j < n) × (b + slice_index ks j ≡ i))

-- of as many classes as there are bytes each byte is the first of its own
abbrev pub AreAllBytes : List ℕ → Type 0
AreAllBytes heads = length heads ≡ 256 → (k : ℕ) → k < 256 → slice_index heads k ≡ k

-- the rows of so many states, and the byte that each class begins with
pub record HasRows (next heads : List ℕ) (states : ℕ) : Type 0 where
  pub rows : length next ≡ 256 * states
  pub few : length heads ≤ 256
  pub all : AreAllBytes heads

-- the first i bytes have classes, numbered in order of their first byte
pub record AreNumbered (leads class_of heads : List ℕ) (i : ℕ) : Type 0 where
  pub len : length class_of ≡ i
  pub few : length heads ≤ i
  pub below : (b : ℕ) → b < i → slice_index class_of b < length heads
  pub head : (b : ℕ) → b < i → slice_index heads (slice_index class_of b) ≡ slice_index leads b
  pub same : (b : ℕ) → b < i → slice_index class_of b ≡ slice_index class_of (slice_index leads b)
  pub first : (k : ℕ) → k < length heads → (slice_index heads k < i) × (slice_index class_of (slice_index heads k) ≡ k)
  pub order : (b k : ℕ) → b < i → k < slice_index class_of b → (c : ℕ) × (c < b) × (slice_index class_of c ≡ k)
  pub all : length heads ≡ i → (k : ℕ) → k < i → slice_index heads k ≡ k

-- the target of a state by a class: by the byte that stands for it
abbrev pub by_head : List ℕ → List ℕ → ℕ → ℕ → ℕ
by_head next heads s k = moves next s (slice_index heads k)

-- b is 0, or the base of a placed state of which each entry is one of the row whose default is d
abbrev pub IsEarlier : (ℕ → ℕ → ℕ) → ℕ → List ℕ → List ℕ → List ℕ → ℕ → ℕ → Type 0
IsEarlier to count ds bases row d b = (b ≡ 0) ⊎ ((r : ℕ) × (r < length bases) × (slice_index bases r ≡ b)
    × ((k : ℕ) → IsEntry to count ds r k → slice_index row k ≢ d))

-- the first s states are placed, and the words have their slots
pub record ArePlaced (to : ℕ → ℕ → ℕ) (count : ℕ) (ds bases words : List ℕ) (full s : ℕ) : Type 0 where
  pub len : length bases ≡ s
  pub base : (r : ℕ) → r < s → IsBase to count ds bases r (slice_index bases r)
  pub small : (r : ℕ) → r < s → slice_index bases r ≤ 320 * s
  pub bits : (i : ℕ) → slot_bit words i ≡ 1 → IsTaken to count ds bases s i
  pub taken : (i : ℕ) → IsTaken to count ds bases s i → slot_bit words i ≡ 1
  pub room : HasRoom words full
  pub few : length words ≤ 5 * s + 5

-- of the first n classes of a row those whose target is not d, placed from b, have the state and the target in their
-- slots, and the other slots are as they were
pub record AreFilled (row : ℕ → ℕ) (d b s n : ℕ) (check next check' next' : List ℕ) : Type 0 where
  pub used : (k : ℕ) → k < n → row k ≢ d → (slice_index check' (b + k) ≡ s) × (slice_index next' (b + k) ≡ row k)
  pub rest : (i : ℕ) → ((k : ℕ) → k < n → row k ≢ d → b + k ≢ i) → (slice_index check' i ≡ slice_index check i)
      × (slice_index next' i ≡ slice_index next i)
