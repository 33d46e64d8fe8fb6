use Rattle.std.proofs.Common.{◌≡◌, length}
use Rattle.lexlook_check.specs.Returns.{has_lone_return}
use Rattle.lexlook_check.proofs.returns.has_lone_return.Given as goal

abbrev pub invariant-bytes : goal.invariant-bytes
invariant-bytes l = has_lone_return l.text ≡ has_lone_return l.rest

abbrev pub decreases-bytes : goal.decreases-bytes
decreases-bytes l = length l.rest
