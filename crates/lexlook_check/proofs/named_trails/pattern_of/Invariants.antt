use Rattle.std.proofs.Common.{◌≡◌, drop, map}
use Rattle.lexlook_text.specs.LineViews.{line_of}
use Rattle.lexlook_check.specs.NamedTrails.{pattern_of}
use Rattle.lexlook_check.proofs.named_trails.pattern_of.Given as goal

abbrev pub invariant-loop-line : goal.invariant-loop-line
invariant-loop-line l = pattern_of (map line_of (drop l.line-index l.definitions)) l.name ≡ pattern_of (map line_of l.definitions) l.name
