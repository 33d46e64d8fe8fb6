use Rattle.std.proofs.Common.{◌≡◌, ◌++◌, drop, map}
use Rattle.lexlook_text.specs.DefinitionLines.{section_from}
use Rattle.lexlook_text.specs.LineViews.{line_of}
use Rattle.lexlook_text.specs.declared.definitions.Within.TheVariants.{Nothing}
use Rattle.lexlook_text.proofs.definitions.section_lines.Given as goal

-- the lines that were found, and those of the lines behind
abbrev pub invariant-loop-line : goal.invariant-loop-line
invariant-loop-line l =
    map line_of l.found.items ++ section_from l.kind l.within (map line_of (drop l.line-index l.lines))
    ≡ section_from l.kind Nothing (map line_of l.lines)
