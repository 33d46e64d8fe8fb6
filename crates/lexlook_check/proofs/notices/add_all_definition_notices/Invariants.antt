use Rattle.std.proofs.Common.{◌≡◌, ◌++◌, flat_map, map, take}
use Rattle.lexlook_text.specs.LineViews.{line_of}
use Rattle.lexlook_check.specs.Notices.{definition_notices}
use Rattle.lexlook_check.proofs.notices.add_all_definition_notices.Given as goal

abbrev pub invariant-loop-line : goal.invariant-loop-line
invariant-loop-line l = l.notices.items ≡ l.fn.notices.items ++ flat_map definition_notices (map line_of (take l.line-index l.definitions))
