-- Classes of states get numbers when they are first called.
use Rattle.std.specs.Prelude.{◌≡◌, ◌⊎◌, ℕ, ◌^◌, ◌+◌, ◌-◌, ◌*◌, ◌/◌, ◌%◌, ◌<◌, ◌≤◌, List, [], ◌∷◌, ◌++◌, length, slice_index}
use Rattle.lexauto_dfa.specs.Numbering.{InOrder}
use Rattle.lexauto_dfa.specs.Sources.{IsRow}
use Rattle.lexauto_dfa.specs.declared.least.numbering.Numbers.{Numbers}

-- each number has a state, and its class has the number; a class that has none has a number that is too great
pub record Numbering (classes of_class members : List ℕ) : Type 0 where
  pub slots : length of_class ≡ length classes
  pub known : (k : ℕ) → k < length members → slice_index members k < length classes
  pub back : (k : ℕ) → k < length members → slice_index of_class (slice_index classes (slice_index members k)) ≡ k
  pub forth : (c : ℕ) → c < length classes → slice_index of_class c < length classes
      → (slice_index of_class c < length members)
      × (slice_index classes (slice_index members (slice_index of_class c)) ≡ c)

abbrev pub AreNumbers : List ℕ → Numbers → Type 0
AreNumbers classes numbers = Numbering classes numbers.of_class.items numbers.members.items

-- the number k is that of a state's class
pub record IsNumberOf (classes members : List ℕ) (k x : ℕ) : Type 0 where
  pub low : k < length members
  pub same : slice_index classes (slice_index members k) ≡ slice_index classes x

-- the class had the number k, or has the next one now
abbrev pub Grown : List ℕ → ℕ → ℕ → List ℕ → Type 0
Grown old x k new = ((k < length old) × (new ≡ old)) ⊎ ((k ≡ length old) × (new ≡ old ++ x ∷ []))

-- more may have been called since
pub record Keeps (old new : List ℕ) : Type 0 where
  pub longer : length old ≤ length new
  pub same : (k : ℕ) → k < length old → slice_index new k ≡ slice_index old k

-- Numbers were called in order, of which the first s are those of the starts, and the others stand in rows of 256: a
-- number is first called by a start or in the row of a lower one.
pub record AreCalled (s : ℕ) (members calls : List ℕ) : Type 0 where
  pub some : 0 < length members
  pub order : InOrder 0 calls (length members - 1)
  pub called : (k : ℕ) → 0 < k → k < length members → (i : ℕ) × (i < length calls) × (slice_index calls i ≡ k)
      × ((i < s) ⊎ ((i - s) / 256 < k))

-- each place of the rows has the number of where the row's state goes by its byte
abbrev pub AreRows : List ℕ → List ℕ → List ℕ → List ℕ → Type 0
AreRows classes table members rows = (j : ℕ) → j < length rows
    → (j / 256 < length members)
    × IsNumberOf classes members (slice_index rows j)
    (slice_index table (slice_index members (j / 256) * 256 + j % 256))

-- a class for each state, and a row of 256 states for each, where it goes by each byte
pub record HasRows (classes table : List ℕ) : Type 0 where
  pub few : length classes < 2 ^ 32
  pub are_classes : IsRow classes
  pub len : length table ≡ 256 * length classes
  pub targets : (i : ℕ) → i < length table → slice_index table i < length classes

-- The row of the next number was added. Classes that are called in it have numbers.
pub record RowAdded (classes table : List ℕ) (old new : Numbers) (rows rows' : List ℕ) : Type 0 where
  pub numbers : AreNumbers classes new
  pub len : length rows' ≡ length rows + 256
  pub each : AreRows classes table new.members.items rows'
  pub called : (starts : List ℕ) → AreCalled (length starts) old.members.items (starts ++ rows)
      → AreCalled (length starts) new.members.items (starts ++ rows')
  pub keeps : Keeps old.members.items new.members.items

-- each start has the number of its state
abbrev pub AreStarts : List ℕ → List ℕ → List ℕ → List ℕ → Type 0
AreStarts classes starts members numbers =
    (i : ℕ) → i < length numbers → IsNumberOf classes members (slice_index numbers i) (slice_index starts i)

-- The numbers of the starts were found. Classes that are called by them have numbers.
pub record StartsAdded (classes starts : List ℕ) (old new : Numbers) (numbers_of : List ℕ) : Type 0 where
  pub numbers : AreNumbers classes new
  pub len : length numbers_of ≡ length starts
  pub each : AreStarts classes starts new.members.items numbers_of
  pub called : AreCalled (length starts) new.members.items numbers_of
  pub keeps : Keeps old.members.items new.members.items

-- the numbers of all classes that are called, with their rows; state 0 has the first
pub record AreMade (classes starts table members numbered rows : List ℕ) : Type 0 where
  pub few : length members ≤ length classes
  pub known : (k : ℕ) → k < length members → slice_index members k < length classes
  pub one : (j k : ℕ) → j < length members → k < length members
      → slice_index classes (slice_index members j) ≡ slice_index classes (slice_index members k) → j ≡ k
  pub zero_is : slice_index members 0 ≡ 0
  pub starts_len : length numbered ≡ length starts
  pub starts_are : AreStarts classes starts members numbered
  pub rows_len : length rows ≡ 256 * length members
  pub rows_are : AreRows classes table members rows
  pub called : AreCalled (length numbered) members (numbered ++ rows)
