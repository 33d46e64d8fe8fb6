use Rattle.std.proofs.Common.{◌≡◌, length}
use Rattle.lextab.specs.Searching.{ArePlaced, by_head}
use Rattle.lextab.proofs.placing.bases_of.Given as goal

abbrev pub invariant-loop-state : goal.invariant-loop-state
invariant-loop-state l = record {
  row : length l.row.items ≡ length l.heads;
  lasts : length l.lasts.items ≡ l.states;
  placed : ArePlaced (by_head l.next l.heads) (length l.heads) l.defaults l.bases.items l.words.items l.full l.state;
}
