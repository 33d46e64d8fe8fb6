use Rattle.std.proofs.Common.{◌≡◌, drop, map}
use Rattle.lexlook_text.specs.LineViews.{line_of}
use Rattle.lexlook_check.specs.IdleEnds.{has_own}
use Rattle.lexlook_check.proofs.idle_ends.has_own.Given as goal

abbrev pub invariant-loop-line : goal.invariant-loop-line
invariant-loop-line l = has_own (map line_of (drop l.line-index l.lines)) l.name ≡ has_own (map line_of l.lines) l.name
