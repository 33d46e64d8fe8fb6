use Rattle.std.proofs.Common.{◌≡◌, ◌++◌, map, take}
use Rattle.lexlook_text.specs.LineViews.{line_of}
use Rattle.lexspec.specs.RuleViews.{rule_of}
use Rattle.lexlook_check.specs.EmptyHeads.{empty_heads}
use Rattle.lexlook_check.proofs.empty_heads.add_empty_heads.Given as goal

abbrev pub invariant-loop-rule : goal.invariant-loop-rule
invariant-loop-rule l = l.notices.items ≡ l.fn.notices.items ++ empty_heads (map line_of l.lines) (map rule_of (take l.rule-index l.rules))
