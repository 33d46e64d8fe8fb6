use Rattle.std.proofs.Common.{◌≡◌, ◌+◌, ◌-◌, ◌<◌, ◌≤◌, [], length, drop, true, false}
use Rattle.std.specs.Prelude.{if◌then◌else◌}
use Rattle.lexscan_window.specs.Reads.{Took, end_step}
use Rattle.lexscan_matching.specs.Looks.{SoFar}
use Rattle.lexscan_matching.specs.Picks.{path_of, state_at}
use Rattle.lexscan_matching.proofs.last_states.look_ahead_more.Given as goal

abbrev pub invariant-fills : goal.invariant-fills
invariant-fills g l =
    let M = g.M.Machine.machine l.machine in
    record {
      place : l.fn.place.at + l.now.reach ≡ length l.reading.window.bytes;
      so_far : SoFar M l.fn.place (drop l.fn.place.at l.reading.window.bytes) l.now.reach l.now.state (path_of M l.fn.place l.reading.window.bytes l.now.reach);
      goes_on : 1 ≤ l.now.reach → M.goes_on l.now.state ≡ true;
      before_is : 1 ≤ l.now.reach → l.now.before ≡ state_at M l.fn.place l.reading.window.bytes (l.now.reach - 1);
      state_known : l.now.state < g.M.Machine.states l.machine;
      before_known : l.now.before < g.M.Machine.states l.machine;
      took : Took g.S.Source.gave l.fn.intake.source.now l.intake.source.now l.fn.reading l.reading;
      same : l.intake.source.ghost_name ≡ l.fn.intake.source.ghost_name;
      ends : g.S.Source.ends l.intake.source.now ≡ g.S.Source.ends l.fn.intake.source.now + end_step l.fn.reading.at_end l.reading.at_end;
      failures : g.S.Source.failures l.intake.source.now ≡ g.S.Source.failures l.fn.intake.source.now;
      live : l.reading.at_end ≡ false → l.intake.live ≡ true;
      sink_same : l.outlet.sink.ghost_name ≡ l.fn.outlet.sink.ghost_name;
      put : g.K.Sink.wrote l.fn.outlet.sink.now [] l.outlet.sink.now;
      write_faults : g.K.Sink.failures l.outlet.sink.now ≡ g.K.Sink.failures l.fn.outlet.sink.now;
      may_write : l.outlet.live ≡ true;
      still : l.fn.reading.at_end ≡ true → l.intake.source.now ≡ l.fn.intake.source.now;
    }

abbrev pub decreases-fills : goal.decreases-fills
decreases-fills g l = l.reading.max_reads - l.reading.taken + (if l.reading.at_end then 0 else 1)
