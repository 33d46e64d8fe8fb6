-- What a walk of a machine over bytes did.
use Rattle.std.specs.Prelude.{◌≡◌, ℕ, ◌-◌, ◌≤◌, ◌<◌, Bool, true, false, List, ◌++◌, length, take}
use Rattle.lex_semantics.specs.Text.{IsText}
use Rattle.lex_semantics.specs.Machine.{Machine, walk}
use Rattle.lexscan_window.specs.declared.walk.Stop.{Stop}
use Rattle.lexscan_window.specs.declared.walk.Stop.TheVariants.{Done, End}
use Rattle.lexscan_window.specs.declared.walk.Walk.{Walk}
use Rattle.lexscan_window.specs.declared.state.Reading.{Reading}

-- These bytes led from a state to another, each of them but the first asked for.
pub record Walked (M : Machine) (first : ℕ) (got : List ℕ) (state before : ℕ) : Type 0 where
  pub text : IsText got
  pub state_is : state ≡ walk M first got
  pub before_is : 1 ≤ length got → before ≡ walk M first (take (length got - 1) got)
  pub asked : (i : ℕ) → 1 ≤ i → i < length got → M.goes_on (walk M first (take i got)) ≡ true

-- The walk stopped where the machine asked for no more, or else it asked for one more.
abbrev pub StopsAt : Machine → List ℕ → ℕ → Stop → Type 0
StopsAt M got state Done = (1 ≤ length got) × (M.goes_on state ≡ false)
StopsAt M got state other = 1 ≤ length got → M.goes_on state ≡ true

-- whether the source answered its end
abbrev pub ends_at : Stop → Bool
ends_at End = true
ends_at other = false

-- The walk took the first of the bytes that were ready after those held. They are no more than are allowed.
pub record Filled (M : Machine) (ready old new : List ℕ) (first most : ℕ) (w : Walk) : Type 0 where
  pub held : new ≡ old ++ take w.count ready
  pub inside : w.count ≤ length ready
  pub few : w.count ≤ most
  pub walked : Walked M first (take w.count ready) w.state w.before
  pub stops : StopsAt M (take w.count ready) w.state w.stop
  pub reading : ends_at w.stop ≡ false

-- The window has grown by the bytes of a walk.
pub record Grown (M : Machine) (old new : Reading) (first : ℕ) (w : Walk) : Type 0 where
  pub got : List ℕ
  pub held : new.window.bytes ≡ old.window.bytes ++ got
  pub count : w.count ≡ length got
  pub walked : Walked M first got w.state w.before
  pub stops : StopsAt M got w.state w.stop
