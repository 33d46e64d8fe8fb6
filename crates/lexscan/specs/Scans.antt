-- What is known of a scan between two turns, and what each step of it does, over the scan before the step and after it.
use Rattle.std.specs.Prelude.{◌≡◌, ℕ, ◌+◌, ◌<◌, ◌≤◌, List, [], length, nat_lt, true, false, None, Some, Result, Ok, Err, IfErr, OnErr, OnOk, IsErrOf}
use Rattle.lex_io.specs.declared.source.Source as Source
use Rattle.lex_io.specs.declared.sink.Sink as Sink
use Rattle.lex_semantics.specs.Text.{AllBelow}
use Rattle.lex_semantics.specs.Machine.{Machine, rules_of_machine}
use Rattle.lex_semantics.specs.MachineLaws.{SomeReject}
use Rattle.lexscan_matching.specs.Looks.{LimitFirst}
use Rattle.lexscan.specs.declared.scan.Ends.{Ends}
use Rattle.lexscan.specs.declared.scan.Scan.{Scan}
use Rattle.lexscan.specs.declared.turn.Turn.{Turn}
use Rattle.lexscan_window.specs.Intakes.{source_of, source_name, can_read, sink_of, sink_name, can_write}
use Rattle.lexscan_window.specs.Memos.{AreTrue}
use Rattle.lexscan_window.specs.Reads.{write_fault_count}
use Rattle.lexscan_window.specs.declared.error.RunError.TheVariants.{TooManyReads, Write, Failed}
use Rattle.lexscan_window.specs.declared.error.RunError.{RunError}
use Rattle.lexscan.specs.TurnSteps.{TurnStep}
use Rattle.lexscan.specs.TurnInvariants.{TurnInvariant, MakesTurn, NoneAfterEnd}
use Rattle.lexscan.specs.Runs.{Ran, FewReads, RunCounts}
use Rattle.lexscan.specs.Bursts.{BurstPreserves, NoEarlier}
use Rattle.lexscan.specs.Turns.{StepLeft, TurnCounts}
use Rattle.lexscan.specs.Ties.{HandedOn, RunHandedOn}

-- The scan has neither failed nor ended.
pub record IsGoing (s : Scan) : Type 0 where
  pub working : s.state.failed ≡ false
  pub going : s.state.ended ≡ None

-- What a scan keeps between two turns, whatever was read: the conditions are in range, the place of the next match is
-- among the bytes held, and the marks are true.
pub record ScanInvariant (M : Machine) (s : Scan) : Type 0 where
  pub condition : s.state.place.condition < M.conditions
  pub inside : s.state.place.at ≤ length s.state.reading.window.bytes
  pub stack : s.state.failed ≡ false → AllBelow M.conditions s.state.acting.stack
  pub marks : s.state.failed ≡ false → AreTrue M s.state.reading s.memo

module _ {S K : Type 0} {of_source : Source.Ghosts S} {of_sink : Sink.Ghosts K} where
  -- These are the same source and the same sink.
  pub record SameEnds (e e' : Ends S K of_source of_sink) : Type 0 where
    pub source : source_name e'.intake ≡ source_name e.intake
    pub sink : sink_name e'.outlet ≡ sink_name e.outlet

  -- The next turn may be made: where the scan has neither failed nor ended, the source and the sink may be called.
  pub record MayTurn (M : Machine) (e : Ends S K of_source of_sink) (s : Scan) : Type 0 where
    pub may_read : s.state.failed ≡ false → s.state.ended ≡ None → s.state.reading.at_end ≡ false
        → can_read e.intake ≡ true
    pub may_write : s.state.failed ≡ false → can_write e.outlet ≡ true
    pub kept : ScanInvariant M s

  -- A match was looked for and carried out, or the end action was, or the turn is refused: what it did to the scan, to
  -- its ends and to their counts.
  pub record MatchMade (M : Machine) (keeps_states : Type 0) (e e' : Ends S K of_source of_sink) (old new : Scan)
      (result : Result Turn RunError) : Type 0 where
    pub same : SameEnds e e'
    pub handed_on : HandedOn (of_sink.flushed (sink_of e'.outlet)) result
    pub turn_step : TurnStep M of_source.gave of_sink.wrote (source_of e.intake) (source_of e'.intake)
        (sink_of e.outlet) (sink_of e'.outlet) old.state new.state result
    pub left : StepLeft M (can_read e'.intake) (can_write e'.outlet) old.state new.state result
    pub counts : TurnCounts of_source.ends of_source.failures of_sink.failures (source_of e.intake)
        (source_of e'.intake) (sink_of e.outlet) (sink_of e'.outlet) old.state.reading new.state.reading result
    pub marks : OnOk result (AreTrue M new.state.reading new.memo)
    pub limit : LimitFirst M keeps_states old.state.place old.state.reading new.state.reading result

  -- A turn of a scan that had neither failed nor ended.
  pub record TurnMade (M : Machine) (keeps_states : Type 0) (e e' : Ends S K of_source of_sink) (old new : Scan)
      (result : Result Turn RunError) : Type 0 where
    pub same : SameEnds e e'
    pub handed_on : HandedOn (of_sink.flushed (sink_of e'.outlet)) result
    pub goes_on : MakesTurn M of_source.gave of_sink.wrote (source_of e.intake) (source_of e'.intake) (sink_of e.outlet)
        (sink_of e'.outlet) old.state new.state result
    pub counts : TurnCounts of_source.ends of_source.failures of_sink.failures (source_of e.intake)
        (source_of e'.intake) (sink_of e.outlet) (sink_of e'.outlet) old.state.reading new.state.reading result
    pub failed : OnErr result (new.state.failed ≡ true)
    pub refused : IsErrOf result Failed → ⊥
    pub too_many : IsErrOf result TooManyReads → (new.state.reading.taken ≡ new.state.reading.max_reads)
        × (new.state.reading.at_end ≡ false)
    pub limit : LimitFirst M keeps_states old.state.place old.state.reading new.state.reading result
    pub next : MayTurn M e' new

  -- A turn of any scan: after a refusal or the end it changes nothing.
  pub record TurnOf (M : Machine) (e e' : Ends S K of_source of_sink) (old new : Scan)
      (result : Result Turn RunError) : Type 0 where
    pub same : SameEnds e e'
    pub goes_on : MakesTurn M of_source.gave of_sink.wrote (source_of e.intake) (source_of e'.intake) (sink_of e.outlet)
        (sink_of e'.outlet) old.state new.state result
    pub counts : TurnCounts of_source.ends of_source.failures of_sink.failures (source_of e.intake)
        (source_of e'.intake) (sink_of e.outlet) (sink_of e'.outlet) old.state.reading new.state.reading result
    pub handed_on : old.state.failed ≡ false → old.state.ended ≡ None
        → HandedOn (of_sink.flushed (sink_of e'.outlet)) result
    pub failed : OnErr result (new.state.failed ≡ true)
    pub after_refusal : old.state.failed ≡ true → (result ≡ Err Failed) × (source_of e'.intake ≡ source_of e.intake)
        × (sink_of e'.outlet ≡ sink_of e.outlet) × (new.state ≡ old.state)
    pub refused : IsErrOf result Failed → old.state.failed ≡ true
    pub after_end : (status : ℕ) → old.state.failed ≡ false → old.state.ended ≡ Some status
        → (result ≡ Ok (Turn.Ended status)) × (source_of e'.intake ≡ source_of e.intake)
        × (sink_of e'.outlet ≡ sink_of e.outlet) × (new.state ≡ old.state)
    pub too_many : IsErrOf result TooManyReads → (new.state.reading.taken ≡ new.state.reading.max_reads)
        × (new.state.reading.at_end ≡ false)
    pub limit : old.state.failed ≡ false → old.state.ended ≡ None
        → LimitFirst M (SomeReject M) old.state.place old.state.reading new.state.reading result
    pub next : MayTurn M e' new

  -- Several turns in one go, over the bytes held and those that the source has ready; or the turn after some was
  -- refused, since the sink failed.
  pub record WentFurther (M : Machine) (e e' : Ends S K of_source of_sink) (old new : Scan)
      (result : Result ℕ RunError) : Type 0 where
    pub same : SameEnds e e'
    pub goes_on : (got : List ℕ) × (wrote : List ℕ) × of_source.gave (source_of e.intake) got (source_of e'.intake)
        × of_sink.wrote (sink_of e.outlet) wrote (sink_of e'.outlet)
        × NoneAfterEnd old.state new.state got × BurstPreserves M old.state new.state got wrote result
    pub ends : of_source.ends (source_of e'.intake) ≡ of_source.ends (source_of e.intake)
    pub read_faults : of_source.failures (source_of e'.intake) ≡ of_source.failures (source_of e.intake)
    pub write_faults : of_sink.failures (sink_of e'.outlet) ≡ of_sink.failures (sink_of e.outlet) + write_fault_count
        result
    pub refusals : IfErr result (λ e. e ≡ Write)
    pub at_end : new.state.reading.at_end ≡ old.state.reading.at_end
    pub max_reads : new.state.reading.max_reads ≡ old.state.reading.max_reads
    pub no_earlier : length old.state.reading.window.bytes ≤ old.state.reading.taken → NoEarlier old.state new.state
    pub going : new.state.ended ≡ None
    pub working : OnOk result (new.state.failed ≡ false)
    pub next : MayTurn M e' new

  -- A scan that has made no turn.
  pub record IsFresh (M : Machine) (e : Ends S K of_source of_sink) (s : Scan) : Type 0 where
    pub start : TurnInvariant M 0 [] [] s.state
    pub going : s.state.ended ≡ None
    pub reading : s.state.reading.at_end ≡ false
    pub next : MayTurn M e s

  -- All turns until the end, or until one is refused.
  pub record RunMade (M : Machine) (e e' : Ends S K of_source of_sink) (old : Scan)
      (result : Result ℕ RunError) : Type 0 where
    pub same : SameEnds e e'
    pub ran : (given : List ℕ) × (out : List ℕ) × of_source.gave (source_of e.intake) given (source_of e'.intake)
        × of_sink.wrote (sink_of e.outlet) out (sink_of e'.outlet)
        × Ran (rules_of_machine M) given out
        (nat_lt (of_source.ends (source_of e.intake)) (of_source.ends (source_of e'.intake)))
        old.state.reading.max_reads result
        × FewReads of_source.ends of_source.failures (source_of e.intake) (source_of e'.intake) given
        old.state.reading.max_reads
    pub counts : RunCounts of_source.ends of_source.failures of_sink.failures (source_of e.intake) (source_of e'.intake)
        (sink_of e.outlet) (sink_of e'.outlet) result
    pub handed_on : RunHandedOn (of_sink.flushed (sink_of e'.outlet)) result
