use Rattle.std.proofs.Common.{◌≡◌, ◌++◌, length}
use Rattle.lexlook_check.specs.Leaving.{without_rule_at}
use Rattle.lexlook_check.proofs.leaving.keep_before.Given as goal

-- what is kept so far, and of the rest
abbrev pub invariant-bytes : goal.invariant-bytes
invariant-bytes l = l.kept.items ++ without_rule_at l.line l.rest ≡ l.fn.kept.items ++ without_rule_at l.fn.line l.text

abbrev pub decreases-bytes : goal.decreases-bytes
decreases-bytes l = length l.rest
