use Rattle.std.proofs.Common.{◌≡◌, ◌≤◌, ◌+◌, ◌++◌, true, length, map}
use Rattle.lexlook_text.specs.DefinitionLines.{lines_from}
use Rattle.lexlook_text.specs.LineViews.{line_of}
use Rattle.lexlook_text.proofs.definitions.lines_of.Given as goal

-- the lines that were found, and those of the rest
abbrev pub invariant-bytes : goal.invariant-bytes
invariant-bytes l = record {
  found : map line_of l.found.items ++ lines_from l.number l.fresh l.rest ≡ lines_from 1 true l.text;
  few : l.number + length l.rest ≤ 1 + length l.text;
}

abbrev pub decreases-bytes : goal.decreases-bytes
decreases-bytes l = length l.rest
