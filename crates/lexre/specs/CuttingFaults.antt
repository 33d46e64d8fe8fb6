-- The first fault, from the left, of a text that has no cutting, and its place. (Which of several faults is told is
-- this project's.)
use Rattle.std.specs.Prelude.{ℕ, zero, suc, ◌+◌, ◌-◌, ◌&&◌, nat_lt, if◌then◌else◌, List, length, drop, Option, Some, None, option_map, codes}
use Rattle.lex_semantics.specs.Reading.{begins}
use Rattle.lexre_bytes.specs.Unread.{Fault, unread, after_byte, after_part, fault_inside}
use Rattle.lexre_bytes.specs.declared.error.PatternError.{PatternError}
use Rattle.lexre_bytes.specs.declared.error.PatternErrorKind.TheVariants.{UnclosedQuote, UnclosedClass, BadEscape, MisplacedSlash}
use Rattle.lexre.specs.Cutting.{deeper, ends_pattern, piece_at}

-- why no piece begins the text: what opens a text in quotes or a class, or a backslash, stands there
abbrev pub piece_fault : List ℕ → Fault
piece_fault t =
    if begins (codes "\"") t then fault_inside UnclosedQuote t (unread after_byte (drop 1 t))
    else if begins (codes "[") t then fault_inside UnclosedClass t (unread after_part (drop 1 t))
    else (BadEscape, t)

-- The first fault, where n parentheses are open: that of a text that no piece begins, or a slash inside parentheses.
-- None where the pattern ends before one. The first number bounds the pieces.
unfoldable pub fault_from : ℕ → ℕ → List ℕ → Option Fault
fault_from zero n t = None
fault_from (suc bound) n t =
    if ends_pattern t then None else elim (piece_at t) [
      | None ↦ Some (piece_fault t)
      | Some x ↦ if begins (codes "/") t && nat_lt 0 n then Some (MisplacedSlash, t)
          else fault_from bound (deeper n t) x.1
    ]

-- a fault in the text t, which stands at this place
abbrev pub placed : ℕ → List ℕ → Fault → PatternError
placed at t fault = record { kind = fault.0; at = at + (length t - length fault.1) }

-- by its kind, and its offset from 0
abbrev pub cutting_fault : List ℕ → Option PatternError
cutting_fault t = option_map (placed 0 t) (fault_from (suc (length t)) 0 t)
