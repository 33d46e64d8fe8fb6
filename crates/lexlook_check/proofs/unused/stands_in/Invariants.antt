use Rattle.std.proofs.Common.{◌≡◌, length}
use Rattle.lexlook_check.specs.Unused.{stands_in}
use Rattle.lexlook_check.proofs.unused.stands_in.Given as goal

abbrev pub invariant-bytes : goal.invariant-bytes
invariant-bytes l = stands_in l.name l.text ≡ stands_in l.name l.rest

abbrev pub decreases-bytes : goal.decreases-bytes
decreases-bytes l = length l.rest
