use Rattle.std.proofs.Common.{◌≡◌, ◌++◌, take}
use Rattle.lexlook_specs.specs.Pictures.{quoted}
use Rattle.lexlook_specs.proofs.picture.adding.add_quoted.Given as goal

abbrev pub invariant-loop-byte : goal.invariant-loop-byte
invariant-loop-byte l = l.text.items ≡ l.fn.text.items ++ quoted (take l.byte-index l.bytes)
