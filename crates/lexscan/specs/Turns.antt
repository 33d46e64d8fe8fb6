-- What a turn leaves of the two ends.
use Rattle.std.specs.Prelude.{◌≡◌, ℕ, ◌+◌, ◌≤◌, Bool, true, false, Result, Ok, OnOk, IsErrOf}
use Rattle.lex_semantics.specs.Machine.{Machine}
use Rattle.lexscan_window.specs.declared.state.Reading.{Reading}
use Rattle.lexscan_window.specs.declared.state.State.{State}
use Rattle.lexscan.specs.declared.turn.Turn.{Turn}
use Rattle.lexscan_window.specs.declared.error.RunError.{RunError}
use Rattle.lexscan_window.specs.declared.error.RunError.TheVariants.{TooManyReads, Failed}
use Rattle.lexscan_matching.specs.Looks.{Wants}
use Rattle.lex_semantics.specs.ByteSets.{bit_of}
use Rattle.lexscan_window.specs.Reads.{read_fault_count, write_fault_count, end_step}

-- What a turn adds to the counts of the two ends; and a source that has answered its end is not called. The reads so
-- far, one that failed and that of the end among them, are no more than are allowed.
pub record TurnCounts {S K : Type 0} (ends_of reads_of : S → ℕ) (writes_of : K → ℕ) (s s' : S) (t t' : K)
    (old new : Reading) (result : Result Turn RunError) : Type 0 where
  pub still : old.at_end ≡ true → s' ≡ s
  pub read_faults : reads_of s' ≡ reads_of s + read_fault_count result
  pub write_faults : writes_of t' ≡ writes_of t + write_fault_count result
  pub ends : ends_of s' ≡ ends_of s + end_step old.at_end new.at_end
  pub max_reads : new.max_reads ≡ old.max_reads
  pub few_reads : new.taken + bit_of new.at_end + read_fault_count result ≤ new.max_reads

-- What one step, by a match or by the end action, leaves before a refusal is told.
pub record StepLeft (M : Machine) (source_live sink_live : Bool) (old new : State)
    (result : Result Turn RunError) : Type 0 where
  pub may_read : OnOk result (new.reading.at_end ≡ false → source_live ≡ true)
  pub may_write : OnOk result (sink_live ≡ true)
  pub failed : new.failed ≡ old.failed
  pub ended : result ≡ Ok Turn.Went → new.ended ≡ old.ended
  pub refused : IsErrOf result Failed → ⊥
  pub too_many : IsErrOf result TooManyReads → (new.reading.taken ≡ new.reading.max_reads)
      × Wants M old.place new.reading
