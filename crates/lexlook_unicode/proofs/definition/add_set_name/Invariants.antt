use Rattle.std.proofs.Common.{◌≡◌, ◌++◌, drop}
use Rattle.lexlook_unicode.specs.Definition.{set_name}
use Rattle.lexlook_unicode.proofs.definition.add_set_name.Given as goal

abbrev pub invariant-loop-byte : goal.invariant-loop-byte
invariant-loop-byte l = l.line.items ++ set_name (drop l.byte-index l.set) ≡ l.initial.line.items ++ set_name l.set
