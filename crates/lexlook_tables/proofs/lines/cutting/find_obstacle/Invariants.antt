use Rattle.std.proofs.Common.{ℕ, ◌<◌, None}
use Rattle.lexlook_tables.specs.Lines.{LinesEnd}
use Rattle.lexlook_tables.specs.Obstacles.{FirstOf, HindersIn}
use Rattle.lexlook_tables.proofs.lines.cutting.find_obstacle.Given as goal

abbrev pub invariant-loop-condition : goal.invariant-loop-condition
invariant-loop-condition g l = record {
  lines : (c : ℕ) → c < l.condition → LinesEnd (g.M.Machine.machine l.machine) c;
  none : (c : ℕ) → c < l.condition → FirstOf (HindersIn (g.M.Machine.machine l.machine) c) None;
}
