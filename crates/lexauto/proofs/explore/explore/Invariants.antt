use Rattle.std.proofs.Common.{◌-◌, ◌*◌, ◌%◌, ◌<◌, false, [], length}
use Rattle.lex_semantics.specs.Text.{Ascending}
use Rattle.lexauto.specs.Explored.{Changes, Exploring, Held, TellsSoFar, goes_by, step_by}
use Rattle.lexauto.specs.Keys.{keys_in}
use Rattle.lexauto.specs.KeyPacking.{look_kept, kept_in}
use Rattle.lexauto.proofs.explore.explore.Given as goal

abbrev pub invariant-work : goal.invariant-work
invariant-work g l = record {
  exploring : Exploring (step_by (g.M.Moves.follow l.moves) (g.M.Moves.read l.moves)) (kept_in l.fn.roots.keys.items) (look_kept l.table) (kept_in l.table.keys.items) l.next.items l.limit;
  held : Held (g.M.Moves.follow l.moves) (kept_in l.table.keys.items) l.next.items l.following.list.items;
  ascending : Ascending l.following.list.items;
  changes : 0 < length l.next.items % 256 → Changes (g.M.Moves.read l.moves) l.following.list.items l.following.changes;
  on : TellsSoFar false (goes_by (g.M.Moves.follow l.moves)) (kept_in l.table.keys.items) l.next.items l.told.goes_on.items;
  accepted : TellsSoFar [] (g.M.Moves.accept l.moves) (kept_in l.table.keys.items) l.next.items (keys_in l.told.accepts.items);
}

abbrev pub decreases-work : goal.decreases-work
decreases-work g l = 256 * l.limit - length l.next.items
