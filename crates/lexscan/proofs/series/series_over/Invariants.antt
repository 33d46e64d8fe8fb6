use Rattle.std.proofs.Common.{length, ◌+◌, ◌-◌, ◌≡◌, ◌<◌, ◌≤◌, List, ◌++◌, drop}
use Rattle.std.specs.Prelude.{min}
use Rattle.lexscan.specs.Bursts.{starts_line}
use Rattle.lexscan.specs.Bursts.{AreStarts}
use Rattle.lexscan.specs.Series.{SeriesTells, end_of}
use Rattle.lexscan.specs.declared.series.BriefToken.{BriefToken}
use Rattle.lexscan.proofs.series.series_over.Given as goal

abbrev pub invariant-turns : goal.invariant-turns
invariant-turns g l =
    let M = g.M.Machine.machine l.machine in
    let done = length l.text - length l.rest in
    let unasked = min l.unasked (length l.text - l.held) in
    record {
      rest : l.rest ≡ drop done l.text;
      added : (added : List BriefToken)
          × (l.tokens.items ≡ l.fn.tokens.items ++ added) × (end_of 0 added ≡ done)
          × SeriesTells M l.text l.held l.fn.place.condition l.fn.place.line_start added done (length l.text - unasked) l.condition (starts_line l.fn.place.line_start l.text done);
      first : l.first ≡ M.start l.condition (starts_line l.fn.place.line_start l.text done);
      known : l.first < g.M.Machine.states l.machine;
      starts : AreStarts M (g.M.Machine.states l.machine) l.condition l.starts;
      condition : l.condition < M.conditions;
      inside : length l.rest ≤ length l.text;
      done : unasked ≤ length l.rest;
      near : length l.rest ≤ l.unasked + 1;
      held : l.held ≤ length l.text - unasked;
    }

abbrev pub decreases-turns : goal.decreases-turns
decreases-turns g l = length l.rest
