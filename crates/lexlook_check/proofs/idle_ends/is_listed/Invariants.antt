use Rattle.std.proofs.Common.{◌≡◌, true, length}
use Rattle.lexlook_check.specs.IdleEnds.{is_listed}
use Rattle.lexlook_check.proofs.idle_ends.is_listed.Given as goal

abbrev pub invariant-bytes : goal.invariant-bytes
invariant-bytes l = is_listed l.name true l.list ≡ is_listed l.name l.fresh l.rest

abbrev pub decreases-bytes : goal.decreases-bytes
decreases-bytes l = length l.rest
