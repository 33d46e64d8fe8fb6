use Rattle.std.proofs.Common.{◌≡◌, ◌++◌, take}
use Rattle.lexauto_reports.specs.Joined.{joined}
use Rattle.lexlook_check.proofs.adding.add_each.Given as goal

abbrev pub invariant-loop-part : goal.invariant-loop-part
invariant-loop-part l = l.text.items ≡ l.fn.text.items ++ joined (take l.part-index l.parts)
