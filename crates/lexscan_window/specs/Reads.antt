-- What a scanner takes from its source.
use Rattle.std.specs.Prelude.{◌≡◌, ℕ, ◌+◌, ◌<◌, max, Bool, true, false, List, [], ◌++◌, length, Option, None, Result, Ok, Err}
use Rattle.lex_semantics.specs.Text.{IsText}
use Rattle.lex_semantics.specs.ByteSets.{bit_of}
use Rattle.lexscan_window.specs.declared.state.Reading.{Reading}
use Rattle.lexscan_window.specs.declared.error.RunError.{RunError}
use Rattle.lexscan_window.specs.declared.error.RunError.TheVariants.{Read, Write}

-- The source gave these bytes, and they were appended to the window.
pub record Took {S : Type 0} (gave : S → List ℕ → S → Type 0) (s t : S) (old new : Reading) : Type 0 where
  pub got : List ℕ
  pub source : gave s got t
  pub text : IsText got
  pub held : new.window.bytes ≡ old.window.bytes ++ got
  pub taken : new.taken ≡ old.taken + length got
  pub nothing : old.at_end ≡ true → got ≡ []
  pub end_stays : old.at_end ≡ true → new.at_end ≡ true
  pub max_reads : new.max_reads ≡ old.max_reads

-- The window has a byte at a place, or the source has answered its end there.
abbrev pub IsThere : Reading → Reading → ℕ → Bool → Type 0
IsThere old new next true =
    (next < length new.window.bytes) × (length new.window.bytes ≡ max (length old.window.bytes) (next + 1))
    × (new.at_end ≡ old.at_end)
IsThere old new next false =
    (new.window.bytes ≡ old.window.bytes) × (length new.window.bytes ≡ next) × (new.at_end ≡ true)

-- A byte was wanted right after those held, and was not had.
abbrev pub IsWanted : Reading → Reading → ℕ → Type 0
IsWanted old new next = (new.window.bytes ≡ old.window.bytes) × (length new.window.bytes ≡ next) × (new.at_end ≡ false)

-- There was no memory for the state after a byte that is held.
abbrev pub IsShort : Reading → Reading → ℕ → Type 0
IsShort old new next =
    (new.window.bytes ≡ old.window.bytes) × (next < length old.window.bytes) × (new.at_end ≡ old.at_end)

-- whether the end was answered
abbrev pub is_end : {T E : Type 0} → Result (Option T) E → Bool
is_end (Ok None) = true
is_end other = false

-- 1 where the answer is this error
abbrev pub read_fault_count : {T : Type 0} → Result T RunError → ℕ
read_fault_count (Err Read) = 1
read_fault_count other = 0

abbrev pub write_fault_count : {T : Type 0} → Result T RunError → ℕ
write_fault_count (Err Write) = 1
write_fault_count other = 0

-- 1 where the end was answered in between
abbrev pub end_step : Bool → Bool → ℕ
end_step false new = bit_of new
end_step true new = 0
