use Rattle.std.proofs.Common.{◌≡◌, ℕ, ◌+◌, ◌-◌, ◌<◌, [], length, max, drop, true, false}
use Rattle.lex_semantics.specs.Text.{Among}
use Rattle.lexscan_window.specs.Reads.{Took}
use Rattle.lexscan_matching.specs.Looks.{SoFar}
use Rattle.lexscan_matching.proofs.looking.look_ahead.Given as goal

abbrev pub invariant-bytes : goal.invariant-bytes
invariant-bytes g l =
    let M = g.M.Machine.machine l.machine in
    record {
      place : l.next ≡ l.fn.place.at + l.len;
      so_far : SoFar M l.fn.place (drop l.fn.place.at l.reading.window.bytes) l.len l.state l.path.states;
      count : length l.path.states ≡ l.len;
      state_known : l.state < g.M.Machine.states l.machine;
      known : (state : ℕ) → Among l.path.states state → state < g.M.Machine.states l.machine;
      took : Took g.S.Source.gave l.fn.intake.source.now l.intake.source.now l.fn.reading l.reading;
      same : l.intake.source.ghost_name ≡ l.fn.intake.source.ghost_name;
      ends : g.S.Source.ends l.intake.source.now ≡ g.S.Source.ends l.fn.intake.source.now;
      failures : g.S.Source.failures l.intake.source.now ≡ g.S.Source.failures l.fn.intake.source.now;
      live : l.reading.at_end ≡ false → l.intake.live ≡ true;
      still : l.fn.reading.at_end ≡ true → l.intake.source.now ≡ l.fn.intake.source.now;
      size : length l.reading.window.bytes ≡ max (length l.fn.reading.window.bytes) (l.fn.place.at + l.len);
      sink_same : l.outlet.sink.ghost_name ≡ l.fn.outlet.sink.ghost_name;
      put : g.K.Sink.wrote l.fn.outlet.sink.now [] l.outlet.sink.now;
      write_faults : g.K.Sink.failures l.outlet.sink.now ≡ g.K.Sink.failures l.fn.outlet.sink.now;
      may_write : l.outlet.live ≡ true;
      end_same : l.reading.at_end ≡ l.fn.reading.at_end;
    }

-- each byte is in the window, or it is taken
abbrev pub decreases-bytes : goal.decreases-bytes
decreases-bytes g l = l.reading.max_reads - l.reading.taken + (length l.reading.window.bytes - l.next)
