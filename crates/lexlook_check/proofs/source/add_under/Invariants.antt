use Rattle.std.proofs.Common.{◌≡◌, ◌++◌, take}
use Rattle.lexlook_check.specs.SourceLines.{under}
use Rattle.lexlook_check.proofs.source.add_under.Given as goal

abbrev pub invariant-loop-byte : goal.invariant-loop-byte
invariant-loop-byte l = l.text.items ≡ l.fn.text.items ++ under (take l.byte-index l.bytes)
