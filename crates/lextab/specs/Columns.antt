-- A packing by columns, as the steps make it: `Packing` says the same of a table. (This project's.)
use Rattle.std.specs.Prelude.{◌≡◌, ◌≢◌, ℕ, ◌+◌, ◌*◌, ◌<◌, ◌≤◌, ◌⊎◌, ◌==◌, cond, List, length, map, slice_index}
use Rattle.lextab_packed.specs.Table.{Table}
use Rattle.lextab.specs.Classes.{IsClassMap}
pub use Rattle.lextab.specs.Packing.{by_class, often, IsDefault}

pub record Packing : Type 0 where
  pub class_of : List ℕ
  pub class_count : ℕ
  pub defaults : List ℕ
  pub bases : List ℕ
  pub check : List ℕ
  pub next : List ℕ

-- the class k of the state s has another target than the default
pub record IsEntry (to : ℕ → ℕ → ℕ) (count : ℕ) (defaults : List ℕ) (s k : ℕ) : Type 0 where
  pub class : k < count
  pub other : to s k ≢ slice_index defaults s

-- an entry of a state before s stands in the slot i
pub record IsTaken (to : ℕ → ℕ → ℕ) (count : ℕ) (defaults bases : List ℕ) (s i : ℕ) : Type 0 where
  pub state : ℕ
  pub class : ℕ
  pub before : state < s
  pub entry : IsEntry to count defaults state class
  pub here : slice_index bases state + class ≡ i

-- the entries of the state s, placed from b, fall on free slots
abbrev pub AreFree : (ℕ → ℕ → ℕ) → ℕ → List ℕ → List ℕ → ℕ → ℕ → Type 0
AreFree to count defaults bases s b =
    (k : ℕ) → IsEntry to count defaults s k → IsTaken to count defaults bases s (b + k) → ⊥

-- b is the least base at which the state s fits (0, if it has no entries)
pub record IsBase (to : ℕ → ℕ → ℕ) (count : ℕ) (defaults bases : List ℕ) (s b : ℕ) : Type 0 where
  pub fits : AreFree to count defaults bases s b
  pub least : (c : ℕ) → c < b → AreFree to count defaults bases s c → ⊥

-- the greatest base and the number of classes
pub record IsSize (n count : ℕ) (bases : List ℕ) (size : ℕ) : Type 0 where
  pub all : (s : ℕ) → s < n → slice_index bases s + count ≤ size
  pub one : (s : ℕ) × (s < n) × (slice_index bases s + count ≡ size)

-- an entry's slot has its state and its target, and every other slot 0 and 0
pub record AreSlots (n : ℕ) (to : ℕ → ℕ → ℕ) (count : ℕ) (defaults bases check next : List ℕ) : Type 0 where
  pub used : (s k : ℕ) → s < n → IsEntry to count defaults s k
      → (slice_index check (slice_index bases s + k) ≡ s) × (slice_index next (slice_index bases s + k) ≡ to s k)
  pub rest : (i : ℕ) → i < length check
      → IsTaken to count defaults bases n i ⊎ ((slice_index check i ≡ 0) × (slice_index next i ≡ 0))

-- what a table has of a packing
abbrev pub packing_in : Table → Packing
packing_in t = record {
  class_of = t.class_of;
  class_count = t.classes;
  defaults = map (λ r. r.default_target) t.rows;
  bases = map (λ r. r.base) t.rows;
  check = map (λ s. s.check) t.slots;
  next = map (λ s. s.next) t.slots;
}

-- the rows of n states by classes, packed
pub record AreRows (n : ℕ) (to : ℕ → ℕ → ℕ) (count : ℕ) (defaults bases check next : List ℕ) : Type 0 where
  pub defaults_len : length defaults ≡ n
  pub default : (s : ℕ) → s < n → IsDefault (to s) count (slice_index defaults s)
  pub bases_len : length bases ≡ n
  pub base : (s : ℕ) → s < n → IsBase to count defaults bases s (slice_index bases s)
  pub check_len : IsSize n count bases (length check)
  pub next_len : IsSize n count bases (length next)
  pub slots : AreSlots n to count defaults bases check next

-- the automaton of n states, packed
pub record IsPacking (n : ℕ) (go : ℕ → ℕ → ℕ) (p : Packing) : Type 0 where
  pub classes : IsClassMap n go p.class_of p.class_count
  pub rows : AreRows n (by_class go p.class_of) p.class_count p.defaults p.bases p.check p.next

-- where the packed table goes
abbrev pub packed_step : Packing → ℕ → ℕ → ℕ
packed_step p s b = slot (slice_index p.bases s + slice_index p.class_of b)
  where
    slot : ℕ → ℕ
    slot i = cond (slice_index p.check i == s) (slice_index p.next i) (slice_index p.defaults s)

-- a packing within the limits of tables
pub record HasRanges (n : ℕ) (p : Packing) : Type 0 where
  pub some_class : 1 ≤ p.class_count
  pub classes : p.class_count ≤ 256
  pub slots : p.class_count ≤ length p.check
  pub few_slots : length p.check ≤ n * 256
  pub default : (s : ℕ) → s < n → slice_index p.defaults s < n
  pub dead_default : slice_index p.defaults 0 ≡ 0
  pub dead_base : slice_index p.bases 0 ≡ 0
  pub base : (s : ℕ) → s < n → slice_index p.bases s + p.class_count ≤ length p.check
  pub slot : (i : ℕ) → i < length p.check → ((slice_index p.check i ≡ 0) × (slice_index p.next i ≡ 0))
      ⊎ ((1 ≤ slice_index p.check i) × (slice_index p.check i < n) × (slice_index p.bases (slice_index p.check i) ≤ i)
      × (i < slice_index p.bases (slice_index p.check i) + p.class_count) × (slice_index p.next i < n))

-- columns of a table in which n states go so, within the limits of tables
pub record GoesAs (n : ℕ) (go : ℕ → ℕ → ℕ) (p : Packing) : Type 0 where
  pub ranges : HasRanges n p
  pub bytes : length p.class_of ≡ 256
  pub class_of : (b : ℕ) → b < 256 → slice_index p.class_of b < p.class_count
  pub defaults_len : length p.defaults ≡ n
  pub bases_len : length p.bases ≡ n
  pub next_len : length p.next ≡ length p.check
  pub steps : (s b : ℕ) → s < n → b < 256 → packed_step p s b ≡ go s b
