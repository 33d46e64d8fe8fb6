-- Where a text in quotes or a class cannot be read on, and the fault that is told of it. (POSIX, lex, Regular
-- Expressions in lex. Which of several faults is told is this project's.)
use Rattle.std.specs.Prelude.{ℕ, zero, suc, if◌then◌else◌, List, length, Option, option_map, unwrap_or, codes}
use Rattle.std.specs.Option.{option_or}
use Rattle.lex_semantics.specs.Escapes.{byte_with}
use Rattle.lex_semantics.specs.Reading.{begins}
use Rattle.lexre_bytes.specs.Lexical.{escape_at, bracketed_at}
use Rattle.lexre_bytes.specs.declared.error.PatternErrorKind.{PatternErrorKind}
use Rattle.lexre_bytes.specs.declared.error.PatternErrorKind.TheVariants.{BadEscape}

-- What is left of the text after all that can be taken from its front, one after another. The number bounds how much
-- that is.
unfoldable pub left_by : (List ℕ → Option (List ℕ)) → ℕ → List ℕ → List ℕ
left_by take_one zero t = t
left_by take_one (suc n) t = unwrap_or (option_map (left_by take_one n) (take_one t)) t

-- a text in quotes is made of escapes and bytes
abbrev pub after_byte : List ℕ → Option (List ℕ)
after_byte t = option_map (λ x. x.1) (byte_with escape_at t)

-- a class is made of these and of what stands between brackets
abbrev pub after_part : List ℕ → Option (List ℕ)
after_part t = option_or (option_map (λ x. x.1) (bracketed_at t)) (after_byte t)

abbrev pub unread : (List ℕ → Option (List ℕ)) → List ℕ → List ℕ
unread take_one t = left_by take_one (length t) t

-- a fault, and the text from its place on
abbrev pub Fault : Type 0
Fault = PatternErrorKind × List ℕ

-- The fault of a text in quotes or of a class: an escape that is none, at its backslash, or else
-- that there is no end, at the sign that opens it. From `left` on it cannot be read.
abbrev pub fault_inside : PatternErrorKind → List ℕ → List ℕ → Fault
fault_inside unclosed opening left = if begins (codes "\\") left then (BadEscape, left) else (unclosed, opening)
