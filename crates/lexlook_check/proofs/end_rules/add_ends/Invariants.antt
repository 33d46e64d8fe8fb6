use Rattle.std.proofs.Common.{◌≡◌, ◌++◌, flat_map, map, take}
use Rattle.lexlook_text.specs.LineViews.{line_of}
use Rattle.lexlook_check.specs.EndRules.{end_notices}
use Rattle.lexlook_check.proofs.end_rules.add_ends.Given as goal

abbrev pub invariant-loop-line : goal.invariant-loop-line
invariant-loop-line l = l.notices.items ≡ l.fn.notices.items ++ flat_map end_notices (map line_of (take l.line-index l.lines))
