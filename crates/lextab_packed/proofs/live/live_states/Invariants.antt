use Rattle.std.proofs.Common.{◌+◌, length}
use Rattle.lextab_packed.specs.Spreading.{unset}
use Rattle.lextab_packed.proofs.Leading.{Closing}
use Rattle.lextab_packed.proofs.live.live_states.Given as goal

abbrev pub invariant-rounds : goal.invariant-rounds
invariant-rounds l = Closing l.next l.accepting l.live.items l.waiting.items

abbrev pub decreases-rounds : goal.decreases-rounds
decreases-rounds l = length l.waiting.items + unset l.live.items
