use Rattle.std.proofs.Common.{◌≡◌, ◌++◌, flat_map, map, take}
use Rattle.lexlook_text.specs.LineViews.{line_of}
use Rattle.lexlook_check.specs.Notices.{rule_notices}
use Rattle.lexlook_check.proofs.notices.add_all_rule_notices.Given as goal

abbrev pub invariant-loop-rule : goal.invariant-loop-rule
invariant-loop-rule l = l.notices.items ≡ l.fn.notices.items ++ flat_map (rule_notices (map line_of l.lines)) (take l.rule-index l.rules)
