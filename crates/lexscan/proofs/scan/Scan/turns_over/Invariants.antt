use Rattle.std.proofs.Common.{◌≡◌, ◌+◌, false}
use Rattle.lexscan_window.specs.Reads.{end_step}
use Rattle.lexscan.specs.Pushes.{IsReachable}
use Rattle.lexscan.specs.Scans.{IsGoing, SameEnds, MayTurn}
use Rattle.lexscan.proofs.Lasting.{left_over}
use Rattle.lexscan.proofs.Pushing.{Onward}
use Rattle.lexscan.proofs.scan.Scan.turns_over.Given as goal

abbrev pub invariant-turns : goal.invariant-turns
invariant-turns g l =
    let M = g.M.Machine.machine l.machine in
    record {
      same : SameEnds l.fn.ends l.ends;
      going : IsGoing l.self;
      next : MayTurn M l.ends l.self;
      max_reads : l.self.state.reading.max_reads ≡ l.fn.self.state.reading.max_reads;
      reachable : IsReachable M l.self.state;
      onward : Onward M g.S.Source.gave g.K.Sink.wrote l.fn.ends.intake.source.now l.ends.intake.source.now l.fn.ends.outlet.sink.now l.ends.outlet.sink.now l.fn.self.state l.self.state;
      ends : g.S.Source.ends l.ends.intake.source.now ≡ g.S.Source.ends l.fn.ends.intake.source.now + end_step false l.self.state.reading.at_end;
      read_faults : g.S.Source.failures l.ends.intake.source.now ≡ g.S.Source.failures l.fn.ends.intake.source.now;
      write_faults : g.K.Sink.failures l.ends.outlet.sink.now ≡ g.K.Sink.failures l.fn.ends.outlet.sink.now;
    }

-- the text's start goes on, or the place does
abbrev pub decreases-turns : goal.decreases-turns
decreases-turns g l = left_over l.self.state.reading.max_reads l.self.state
