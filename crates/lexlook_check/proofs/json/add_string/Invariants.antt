use Rattle.std.proofs.Common.{◌≡◌, ◌∷◌, [], ◌++◌, flat_map, take}
use Rattle.lexlook_check.specs.JsonLines.{string_byte}
use Rattle.lexlook_check.proofs.json.add_string.Given as goal

abbrev pub invariant-loop-byte : goal.invariant-loop-byte
invariant-loop-byte l = l.text.items ≡ (l.fn.text.items ++ 34 ∷ []) ++ flat_map (string_byte l.whole) (take l.byte-index l.bytes)
