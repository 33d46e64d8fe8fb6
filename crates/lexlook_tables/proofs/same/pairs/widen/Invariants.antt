use Rattle.std.proofs.Common.{◌+◌, ◌≤◌, length}
use Rattle.lexlook_tables.specs.Searching.{HasAt, Searched, unseen}
use Rattle.lexlook_tables.proofs.same.pairs.widen.Given as goal

abbrev pub invariant-bytes : goal.invariant-bytes
invariant-bytes g l = record {
  here : HasAt l.pairs.items l.place l.pair;
  longer : length l.fn.pairs.items ≤ length l.pairs.items;
  fewer : unseen l.seen.items + length l.pairs.items ≤ unseen l.fn.seen.items + length l.fn.pairs.items;
  searched : Searched l.order (g.A.Machine.machine l.left) (g.B.Machine.machine l.right) (g.A.Machine.states l.left) (g.B.Machine.states l.right) l.pairs.items l.seen.items l.place l.byte;
}
