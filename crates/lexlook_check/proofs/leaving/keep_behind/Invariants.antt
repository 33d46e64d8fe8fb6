use Rattle.std.proofs.Common.{◌≡◌, ◌++◌, length}
use Rattle.lexlook_check.specs.Leaving.{without_first_rule}
use Rattle.lexlook_check.proofs.leaving.keep_behind.Given as goal

-- what is kept so far, and of the rest
abbrev pub invariant-bytes : goal.invariant-bytes
invariant-bytes l = l.kept.items ++ without_first_rule l.rest ≡ l.fn.kept.items ++ without_first_rule l.text

abbrev pub decreases-bytes : goal.decreases-bytes
decreases-bytes l = length l.rest
