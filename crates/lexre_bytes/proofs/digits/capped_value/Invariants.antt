use Rattle.std.proofs.Common.{◌≡◌, min, take}
use Rattle.lex_semantics.specs.Reading.{value}
use Rattle.lexre_bytes.proofs.digits.capped_value.Given as goal
use Rattle.lexre_bytes.specs.Limits.{number_cap}

abbrev pub invariant-loop-digit : goal.invariant-loop-digit
invariant-loop-digit l = l.number ≡ min number_cap (value l.radix (take l.digit-index l.digits))
