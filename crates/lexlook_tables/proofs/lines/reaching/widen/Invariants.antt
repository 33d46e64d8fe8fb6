use Rattle.std.proofs.Common.{◌≡◌, ℕ, ◌+◌, ◌≤◌, List, length, get_or}
use Rattle.lexlook_tables.specs.Reaching.{Found, Followed, unmarked}
use Rattle.lexlook_tables.proofs.lines.reaching.widen.Given as goal

abbrev pub invariant-bytes : goal.invariant-bytes
invariant-bytes g l = record {
  here : get_or l.found.items l.place 0 ≡ l.state;
  longer : length l.fn.found.items ≤ length l.found.items;
  fewer : unmarked l.marks.items + length l.found.items ≤ unmarked l.fn.marks.items + length l.fn.found.items;
  size : length l.marks.items ≡ g.M.Machine.states l.machine;
  found : (from : List ℕ) → Found (g.M.Machine.machine l.machine) (g.M.Machine.states l.machine) from l.fn.found.items l.fn.marks.items l.place 0 → Found (g.M.Machine.machine l.machine) (g.M.Machine.states l.machine) from l.found.items l.marks.items l.place l.byte;
  followed : Followed (g.M.Machine.machine l.machine) l.state l.byte l.fn.found.items l.fn.marks.items l.found.items l.marks.items;
}
