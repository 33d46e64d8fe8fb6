use Rattle.std.proofs.Common.{ℕ, ◌+◌, ◌^◌, ◌<◌, List, ◌++◌, length, take}
use Rattle.liblex_calls.specs.Lines.{IsAfter}
use Rattle.liblex_calls.proofs.lines.Mark.past.Given as goal

-- the place after the bytes so far
abbrev pub invariant-loop-byte : goal.invariant-loop-byte
invariant-loop-byte l = (before : List ℕ) → IsAfter before l.fn.self → length before + length l.bytes < 2 ^ 64 → IsAfter (before ++ take l.byte-index l.bytes) l.mark
