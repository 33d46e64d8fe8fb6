use Rattle.std.proofs.Common.{◌≡◌, ◌++◌, drop, map}
use Rattle.std.specs.Prelude.{string_bytes}
use Rattle.lexlook_unicode.specs.Definition.{later_names}
use Rattle.lexlook_unicode.proofs.definition.add_later_names.Given as goal

abbrev pub invariant-loop-set : goal.invariant-loop-set
invariant-loop-set l =
    l.line.items ++ later_names (map string_bytes (drop l.set-index l.sets)) ≡ l.initial.line.items ++ later_names (map string_bytes l.sets)
