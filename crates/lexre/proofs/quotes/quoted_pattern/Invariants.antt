use Rattle.std.proofs.Common.{◌≡◌, map, take}
use Rattle.lexre.specs.Views.{tree_of}
use Rattle.lexre.proofs.QuotedLaws.{byte_trees}
use Rattle.lexre.proofs.quotes.quoted_pattern.Given as goal

-- the trees of the bytes so far
abbrev pub invariant-loop-byte : goal.invariant-loop-byte
invariant-loop-byte l = map tree_of l.parts.items ≡ byte_trees l.fold (take l.byte-index l.bytes)
