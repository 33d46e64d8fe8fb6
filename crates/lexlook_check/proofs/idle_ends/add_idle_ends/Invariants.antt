use Rattle.std.proofs.Common.{◌≡◌, ◌++◌, flat_map, map, take}
use Rattle.lexlook_text.specs.LineViews.{line_of}
use Rattle.lexlook_check.specs.IdleEnds.{idle_notices}
use Rattle.lexlook_check.proofs.idle_ends.add_idle_ends.Given as goal

abbrev pub invariant-loop-line : goal.invariant-loop-line
invariant-loop-line l = l.notices.items ≡ l.fn.notices.items ++ flat_map (idle_notices l.own) (map line_of (take l.line-index l.lines))
