use Rattle.std.proofs.Common.{ℕ, ◌<◌, get_or, None}
use Rattle.lexlook_tables.specs.Lines.{EndsAt}
use Rattle.lexlook_tables.specs.Obstacles.{FirstOf, HindersAt}
use Rattle.lexlook_tables.specs.Discarding.{IsKnown}
use Rattle.lexlook_tables.proofs.lines.cutting.obstacle_among.Given as goal

abbrev pub invariant-loop-state : goal.invariant-loop-state
invariant-loop-state g l = record {
  none : (p : ℕ) → p < l.state-index → FirstOf (HindersAt (g.M.Machine.machine l.machine) l.condition (get_or l.found p 0)) None;
  ends : (p : ℕ) → p < l.state-index → EndsAt (g.M.Machine.machine l.machine) l.condition ((g.M.Machine.machine l.machine).next (get_or l.found p 0) 10);
  known : IsKnown (g.M.Machine.machine l.machine) (g.M.Machine.states l.machine) l.known;
}
