-- Turns over the bytes that are there: what each is asked and does, over the scan before and after.
use Rattle.std.specs.Prelude.{◌≡◌, ℕ, ◌+◌, true, false, List, Option, Some, None, Result, Ok, Err, ⊤, OnErr, IsErrOf}
use Rattle.lex_io.specs.declared.source.Source as Source
use Rattle.lex_io.specs.declared.sink.Sink as Sink
use Rattle.lex_semantics.specs.Machine.{Machine}
use Rattle.lexscan_window.specs.Intakes.{source_of, sink_of}
use Rattle.lexscan_window.specs.Reads.{read_fault_count, write_fault_count, end_step}
use Rattle.lexscan_window.specs.declared.state.State.{State}
use Rattle.lexscan_window.specs.declared.error.RunError.{RunError}
use Rattle.lexscan_window.specs.declared.error.RunError.TheVariants.{Read, TooManyReads, Failed}
use Rattle.lexscan.specs.declared.scan.Ends.{Ends}
use Rattle.lexscan.specs.declared.scan.Scan.{Scan}
use Rattle.lexscan.specs.declared.turn.Turn.{Turn}
use Rattle.lexscan.specs.Pushes.{Attempts, HandedOnIfMade, IsReachable, IsAsking}
use Rattle.lexscan.specs.Scans.{IsGoing, ScanInvariant, SameEnds, MayTurn}

-- Some turns led here, the scan has neither failed nor ended, and its source has not answered its end.
pub record IsPaused (M : Machine) (s : Scan) : Type 0 where
  pub going : IsGoing s
  pub reading : s.state.reading.at_end ≡ false
  pub kept : ScanInvariant M s
  pub reachable : IsReachable M s.state

module _ {S K : Type 0} {of_source : Source.Ghosts S} {of_sink : Sink.Ghosts K} where
  -- After a turn that was made the next one may be, and after a refusal the scan has failed.
  abbrev pub MayGoOn : Machine → Ends S K of_source of_sink → Scan → Result (Option Turn) RunError → Type 0
  MayGoOn M e s (Ok (Some turn)) = MayTurn M e s
  MayGoOn M e s (Ok None) = ⊤
  MayGoOn M e s (Err error) = s.state.failed ≡ true

  -- A turn was made, or given up since it asks for more than the source has, or refused.
  pub record Attempted (M : Machine) (e e' : Ends S K of_source of_sink) (old new : Scan)
      (result : Result (Option Turn) RunError) : Type 0 where
    pub same : SameEnds e e'
    pub attempts : Attempts M of_source.gave of_sink.wrote (source_of e.intake) (source_of e'.intake) (sink_of e.outlet)
        (sink_of e'.outlet) old.state new.state result
    pub ends : of_source.ends (source_of e'.intake) ≡ of_source.ends (source_of e.intake) + end_step
        old.state.reading.at_end new.state.reading.at_end
    pub read_faults : of_source.failures (source_of e'.intake) ≡ of_source.failures (source_of e.intake) +
        read_fault_count result
    pub write_faults : of_sink.failures (sink_of e'.outlet) ≡ of_sink.failures (sink_of e.outlet) + write_fault_count
        result
    pub max_reads : new.state.reading.max_reads ≡ old.state.reading.max_reads
    pub handed_on : HandedOnIfMade (of_sink.flushed (sink_of e'.outlet)) result
    pub too_many : IsErrOf result TooManyReads → ⊥
    pub refused : IsErrOf result Failed → ⊥
    pub next : MayGoOn M e' new result
    pub kept : ScanInvariant M new

-- What several turns add to the counts of the two ends, where the source had not answered its end.
pub record TurnsCount {S K : Type 0} (ends_of reads_of : S → ℕ) (writes_of : K → ℕ) (s s' : S) (t t' : K) (new : State)
    (result : Result Turn RunError) : Type 0 where
  pub ends : ends_of s' ≡ ends_of s + end_step false new.reading.at_end
  pub read_faults : reads_of s' ≡ reads_of s + read_fault_count result
  pub write_faults : writes_of t' ≡ writes_of t + write_fault_count result

-- What several turns leave: the scan may go on, or it has failed.
pub record TurnsLeft (M : Machine) (old new : Scan) (result : Result Turn RunError) : Type 0 where
  pub max_reads : new.state.reading.max_reads ≡ old.state.reading.max_reads
  pub too_many : IsErrOf result TooManyReads → ⊥
  pub refused : IsErrOf result Failed → ⊥
  pub failed : OnErr result (new.state.failed ≡ true)
  pub kept : ScanInvariant M new

-- What turns over a piece, or over all that waited, leave of the sink; no source can be at fault there.
pub record SinkCounts {K A : Type 0} (writes_of : K → ℕ) (t t' : K) (result : Result A RunError) : Type 0 where
  pub write_faults : writes_of t' ≡ writes_of t + write_fault_count result
  pub not_read : IsErrOf result Read → ⊥
  pub too_many : IsErrOf result TooManyReads → ⊥
  pub refused : IsErrOf result Failed → ⊥

-- The scan is kept so that the next piece may be fed, or it has failed.
pub record MayBeFed {A : Type 0} (M : Machine) (s : Scan) (result : Result A RunError) : Type 0 where
  pub failed : OnErr result (s.state.failed ≡ true)
  pub kept : ScanInvariant M s
  pub reachable : s.state.failed ≡ false → IsReachable M s.state

-- The same after a piece, with the bytes that wait and the state after all of them, where the next match asks for more.
-- Where it is refused, there is room for as many bytes as before.
pub record PieceLeft (M : Machine) (states : ℕ) (s : Scan) (waiting : List ℕ) (asking : Option ℕ) (before after : ℕ)
    (result : Result Turn RunError) : Type 0 where
  pub next : MayBeFed M s result
  pub room : OnErr result (after ≡ before)
  pub reading : s.state.failed ≡ false → s.state.ended ≡ None → s.state.reading.at_end ≡ false
  pub asking_more : IsAsking M states s.state waiting asking
