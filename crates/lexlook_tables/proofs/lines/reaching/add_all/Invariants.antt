use Rattle.std.proofs.Common.{◌≡◌, take, length}
use Rattle.lexlook_tables.specs.Reaching.{BegunFrom}
use Rattle.lexlook_tables.proofs.lines.reaching.add_all.Given as goal

abbrev pub invariant-loop-state : goal.invariant-loop-state
invariant-loop-state l = record {
  size : length l.marks.items ≡ length l.fn.marks.items;
  begun : BegunFrom (take l.state-index l.states) l.fn.found.items l.fn.marks.items l.found.items l.marks.items;
}
