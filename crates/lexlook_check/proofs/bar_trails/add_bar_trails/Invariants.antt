use Rattle.std.proofs.Common.{◌≡◌, ◌++◌, false, drop, map}
use Rattle.lexlook_text.specs.LineViews.{line_of}
use Rattle.lexlook_check.specs.BarTrails.{bar_trails}
use Rattle.lexlook_check.proofs.bar_trails.add_bar_trails.Given as goal

-- the places that were found, and those of the rules behind
abbrev pub invariant-loop-rule : goal.invariant-loop-rule
invariant-loop-rule l =
    l.notices.items ++ bar_trails (map line_of l.lines) l.behind (drop l.rule-index l.rules)
    ≡ l.fn.notices.items ++ bar_trails (map line_of l.lines) false l.rules
