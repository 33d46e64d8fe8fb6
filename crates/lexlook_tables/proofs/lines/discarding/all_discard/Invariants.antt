use Rattle.std.proofs.Common.{◌+◌, ◌-◌, length}
use Rattle.lexlook_tables.specs.Reaching.{unmarked}
use Rattle.lexlook_tables.specs.Discarding.{SearchFrom}
use Rattle.lexlook_tables.proofs.lines.discarding.all_discard.Given as goal

abbrev pub invariant-states : goal.invariant-states
invariant-states g l = SearchFrom (g.M.Machine.machine l.machine) (g.M.Machine.states l.machine) l.state (length l.fn.known.found.items) l.known.found.items l.known.marks.items l.place

abbrev pub decreases-states : goal.decreases-states
decreases-states g l = unmarked l.known.marks.items + length l.known.found.items - l.place
