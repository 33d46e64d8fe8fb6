use Rattle.std.proofs.Common.{◌≡◌, map, take}
use Rattle.lexlook_text.specs.Known.{definition_names}
use Rattle.lexlook_text.specs.LineViews.{line_of}
use Rattle.lexlook_text.proofs.known.definition_names.Given as goal

abbrev pub invariant-loop-line : goal.invariant-loop-line
invariant-loop-line l = l.names.items ≡ definition_names (map line_of (take l.line-index l.definitions))
