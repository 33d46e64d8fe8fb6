-- What is known of an automaton whose states are classes of another's.
use Rattle.std.specs.Prelude.{◌≡◌, ◌≢◌, ℕ, ◌*◌, ◌++◌, ◌<◌, List, length, slice_index}
use Rattle.lexauto_dfa.specs.LeastTables.{Automaton, IsWhole, SameFuture, AreToldApart, accepts, IsLeast, IsNumbered}
use Rattle.lexauto_dfa.specs.Numbers.{AreCalled, AreRows, AreStarts}

-- states of one class have equal futures, and of two classes they are told apart
pub record AreClasses (A : Automaton) (classes : List ℕ) : Type 0 where
  pub all : length classes ≡ A.states
  pub same : (x y : ℕ) → x < A.states → y < A.states → slice_index classes x ≡ slice_index classes y
      → SameFuture A x A y
  pub apart : (x y : ℕ) → x < A.states → y < A.states → slice_index classes x ≢ slice_index classes y
      → AreToldApart A x y

-- B has a state for each class that is called, with a member, from the dead state's on
pub record IsQuotient (A : Automaton) (classes members : List ℕ) (B : Automaton) : Type 0 where
  pub count : B.states ≡ length members
  pub known : (k : ℕ) → k < length members → slice_index members k < A.states
  pub one : (j k : ℕ) → j < length members → k < length members
      → slice_index classes (slice_index members j) ≡ slice_index classes (slice_index members k) → j ≡ k
  pub zero_is : slice_index members 0 ≡ 0
  pub starts_len : length B.starts ≡ length A.starts
  pub starts : AreStarts classes A.starts members B.starts
  pub rows_len : length B.table ≡ 256 * length members
  pub rows : AreRows classes A.table members B.table
  pub called : AreCalled (length B.starts) members (B.starts ++ B.table)
  pub lists_len : length B.lists ≡ length members
  pub lists : (k : ℕ) → k < length members → accepts B k ≡ accepts A (slice_index members k)

-- the least automaton that accepts as A does from the starts
pub record IsMinimised (A B : Automaton) : Type 0 where
  pub whole : IsWhole B
  pub least : IsLeast B
  pub numbered : IsNumbered B
  pub starts : length B.starts ≡ length A.starts
  pub same : (i : ℕ) → i < length A.starts → SameFuture A (slice_index A.starts i) B (slice_index B.starts i)
