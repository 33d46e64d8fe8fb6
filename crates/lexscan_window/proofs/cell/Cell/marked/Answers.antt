use Rattle.std.proofs.Common.{inr}
use Rattle.lexscan_window.proofs.cell.Cell.marked.Goals as goal

-- A cell of another place is made anew.
pub returns-then-self-place : goal.returns-then-self-place
returns-then-self-place c m h = inr (c.new.ensures m h)
