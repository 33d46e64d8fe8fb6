use Rattle.std.proofs.Common.{◌-◌}
use Rattle.lextab_packed.specs.Singles.{DropsTo}
use Rattle.lextab_packed.proofs.singles.next_kept.Given as goal

abbrev pub invariant-bytes : goal.invariant-bytes
invariant-bytes l = DropsTo l.rows l.place l.from l.byte

abbrev pub decreases-bytes : goal.decreases-bytes
decreases-bytes l = 256 - l.byte
