-- Whether what was written has been handed on. (This project's; POSIX leaves it to the stream.)
use Rattle.std.specs.Prelude.{◌≡◌, ℕ, Bool, true, Result, Ok, Err, ⊤}
use Rattle.lexscan_window.specs.declared.error.RunError.{RunError}
use Rattle.lexscan_window.specs.declared.error.RunError.TheVariants.{Stack}
use Rattle.lexscan.specs.declared.turn.Turn.{Turn}

-- A refused turn: where the stack was at fault, what was written has been handed on.
abbrev pub HandedOnAfter : Bool → RunError → Type 0
HandedOnAfter flushed Stack = flushed ≡ true
HandedOnAfter flushed other = ⊤

-- A turn: where the scan has ended, or the stack was at fault, what was written has been handed on.
abbrev pub HandedOn : Bool → Result Turn RunError → Type 0
HandedOn flushed (Ok Turn.Went) = ⊤
HandedOn flushed (Ok (Turn.Ended status)) = flushed ≡ true
HandedOn flushed (Err e) = HandedOnAfter flushed e

-- the same of a whole run
abbrev pub RunHandedOn : Bool → Result ℕ RunError → Type 0
RunHandedOn flushed (Ok status) = flushed ≡ true
RunHandedOn flushed (Err e) = HandedOnAfter flushed e
