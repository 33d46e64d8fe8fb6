use Rattle.std.proofs.Common.{◌≡◌, false, length}
use Rattle.lexlook_check.specs.Notices.{escapes_letter}
use Rattle.lexlook_check.proofs.notices.escapes_letter.Given as goal

abbrev pub invariant-bytes : goal.invariant-bytes
invariant-bytes l = escapes_letter false l.piece ≡ escapes_letter l.escaped l.rest

abbrev pub decreases-bytes : goal.decreases-bytes
decreases-bytes l = length l.rest
