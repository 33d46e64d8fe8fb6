use Rattle.std.proofs.Common.{◌≡◌, ◌++◌, flat_map, map, take}
use Rattle.lexlook_text.specs.LineViews.{line_of}
use Rattle.lexlook_check.specs.Returns.{return_notices}
use Rattle.lexlook_check.proofs.returns.add_returns.Given as goal

abbrev pub invariant-loop-line : goal.invariant-loop-line
invariant-loop-line l = l.notices.items ≡ l.fn.notices.items ++ flat_map return_notices (map line_of (take l.line-index l.lines))
