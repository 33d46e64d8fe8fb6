use Rattle.std.proofs.Common.{◌+◌, ◌-◌, length}
use Rattle.lexlook_tables.specs.Reaching.{Found, unmarked}
use Rattle.lexlook_tables.proofs.lines.reaching.reached.Given as goal

abbrev pub invariant-states : goal.invariant-states
invariant-states g l = Found (g.M.Machine.machine l.machine) (g.M.Machine.states l.machine) l.starts l.found.items l.marks.items l.place 0

abbrev pub decreases-states : goal.decreases-states
decreases-states g l = unmarked l.marks.items + length l.found.items - l.place
