use Rattle.std.proofs.Common.{◌-◌}
use Rattle.lextab_packed.specs.Leaps.{StaysTo}
use Rattle.lextab_packed.proofs.leaps.next_leaver.Given as goal

abbrev pub invariant-bytes : goal.invariant-bytes
invariant-bytes l = StaysTo l.rows l.place l.from l.byte

abbrev pub decreases-bytes : goal.decreases-bytes
decreases-bytes l = 256 - l.byte
