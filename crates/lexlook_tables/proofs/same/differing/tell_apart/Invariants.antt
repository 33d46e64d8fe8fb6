use Rattle.std.proofs.Common.{◌+◌, ◌-◌, length}
use Rattle.lexlook_tables.specs.Searching.{Searched, unseen}
use Rattle.lexlook_tables.proofs.same.differing.tell_apart.Given as goal

abbrev pub invariant-pairs : goal.invariant-pairs
invariant-pairs g l = Searched l.order (g.A.Machine.machine l.left) (g.B.Machine.machine l.right) (g.A.Machine.states l.left) (g.B.Machine.states l.right) l.pairs.items l.seen.items l.place 0

abbrev pub decreases-pairs : goal.decreases-pairs
decreases-pairs g l = unseen l.seen.items + length l.pairs.items - l.place
