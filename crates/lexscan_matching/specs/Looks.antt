-- What a match has seen.
use Rattle.std.specs.Prelude.{◌≡◌, ℕ, ◌+◌, ◌≤◌, ◌<◌, max, Bool, true, false, List, length, take, drop, ◌⊎◌, Result, IsErrOf}
use Rattle.lex_semantics.specs.Machine.{Machine, state_after}
use Rattle.lex_semantics.specs.Trail.{trail_from}
use Rattle.lexscan_window.specs.declared.error.RunError.{RunError}
use Rattle.lexscan_window.specs.declared.error.RunError.TheVariants.{TooManyReads, OutOfMemory}
use Rattle.lexscan_window.specs.declared.state.Reading.{Reading}
use Rattle.lexscan_window.specs.declared.state.TextPlace.{TextPlace}

-- after the first i of these bytes the machine is live: a longer match might follow
abbrev pub IsLiveAfter : Machine → TextPlace → List ℕ → ℕ → Type 0
IsLiveAfter M p y i = M.goes_on (state_after M p.condition p.line_start (take i y)) ≡ true

-- The bytes that a match has asked for so far, and the states after them.
pub record SoFar (M : Machine) (p : TextPlace) (y : List ℕ) (reach state : ℕ) (path : List ℕ) : Type 0 where
  pub inside : reach ≤ length y
  pub state_is : state ≡ state_after M p.condition p.line_start (take reach y)
  pub asked : (i : ℕ) → 1 ≤ i → i < reach → IsLiveAfter M p y i
  pub path_is : path ≡ trail_from M (M.start p.condition p.line_start) (take reach y)

-- The match has asked for the first `reach` bytes from its place on, and then for no more, or for the end.
pub record Looked (M : Machine) (p : TextPlace) (old new : Reading) (path : List ℕ) : Type 0 where
  pub reach : ℕ
  pub some : 1 ≤ reach
  pub state : ℕ
  pub so_far : SoFar M p (drop p.at new.window.bytes) reach state path
  pub size : length new.window.bytes ≡ max (length old.window.bytes) (p.at + reach)
  pub stops : ((M.goes_on state ≡ false) × (new.at_end ≡ old.at_end))
      ⊎ ((M.goes_on state ≡ true) × (p.at + reach ≡ length new.window.bytes) × (new.at_end ≡ true))

-- There is no byte at the place, and the source has answered its end.
pub record LookedAtEnd (p : TextPlace) (old new : Reading) : Type 0 where
  pub same : new.window.bytes ≡ old.window.bytes
  pub all : length new.window.bytes ≡ p.at
  pub at_end : new.at_end ≡ true

abbrev pub LookedOrAtEnd : Machine → TextPlace → Reading → Reading → List ℕ → Bool → Type 0
LookedOrAtEnd M p old new path true = Looked M p old new path
LookedOrAtEnd M p old new path false = LookedAtEnd p old new

-- The match has asked for all the bytes held from its place on, and asks for one more.
pub record Wants (M : Machine) (p : TextPlace) (new : Reading) : Type 0 where
  pub inside : p.at ≤ length new.window.bytes
  pub asked : (i : ℕ) → 1 ≤ i → p.at + i ≤ length new.window.bytes → IsLiveAfter M p (drop p.at new.window.bytes) i
  pub reading : new.at_end ≡ false

-- A byte was wanted and not had, or there was no memory for the state after one that was held.
abbrev pub Unmet : Machine → TextPlace → Reading → Reading → Type 0
Unmet M p old new = Wants M p new ⊎ ((new.window.bytes ≡ old.window.bytes) × (new.at_end ≡ old.at_end))

-- Of each byte that a match asks for, a read too many comes before want of memory. So memory is wanted only where one
-- more read is allowed; or for the state after a byte that was held before, where states are kept. Where no more reads
-- are allowed, a match that asks for a byte more than was held is refused for that.
pub record LimitFirst {T : Type 0} (M : Machine) (keeps_states : Type 0) (p : TextPlace) (old new : Reading)
    (result : Result T RunError) : Type 0 where
  pub memory : IsErrOf result OutOfMemory → (new.taken < new.max_reads)
      ⊎ (keeps_states × (new.window.bytes ≡ old.window.bytes) × (p.at < length old.window.bytes))
  pub reads : old.taken ≡ old.max_reads → Wants M p old → IsErrOf result TooManyReads ⊎ IsErrOf result OutOfMemory
