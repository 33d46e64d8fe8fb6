use Rattle.std.proofs.Common.{◌≡◌, ◌++◌, flat_map, take}
use Rattle.lexlook_check.specs.Takings.{text_byte}
use Rattle.lexlook_check.proofs.takings.add_text.Given as goal

abbrev pub invariant-loop-byte : goal.invariant-loop-byte
invariant-loop-byte l = l.text.items ≡ l.fn.text.items ++ flat_map text_byte (take l.byte-index l.bytes)
