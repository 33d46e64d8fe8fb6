-- What a call leaves of the source, and of the sink.
use Rattle.std.specs.Prelude.{◌≡◌, ◌≢◌, ℕ, ◌+◌, ◌≤◌, Bool, true, false, List, [], Result, OnOk, IfErr, IsErrOf}
use Rattle.lexscan_window.specs.declared.state.Reading.{Reading}
use Rattle.lexscan_window.specs.declared.error.RunError.{RunError}
use Rattle.lexscan_window.specs.declared.error.RunError.TheVariants.{Write, Stack, Failed}
use Rattle.lex_semantics.specs.ByteSets.{bit_of}
use Rattle.lexscan_window.specs.Reads.{read_fault_count, write_fault_count, end_step}

-- The refusals of a turn before its action: neither the sink failed nor was the stack of conditions at fault.
abbrev pub IsEarly : RunError → Type 0
IsEarly e = (e ≢ Write) × (e ≢ Stack)

-- The sink may be called again where nothing was refused, and each refusal is one of its failures.
pub record SinkLeft {K T : Type 0} (fails : K → ℕ) (t t' : K) (live : Bool) (result : Result T RunError) : Type 0 where
  pub write_faults : fails t' ≡ fails t + write_fault_count result
  pub may_write : OnOk result (live ≡ true)
  pub refusals : IfErr result (λ e. e ≡ Write)

-- Nothing was put: what was put before may have been handed on. The sink may be called again where nothing was refused.
pub record NothingPut {K T : Type 0} (wrote : K → List ℕ → K → Type 0) (fails : K → ℕ) (t t' : K) (live : Bool)
    (result : Result T RunError) : Type 0 where
  pub sink : wrote t [] t'
  pub write_faults : fails t' ≡ fails t + write_fault_count result
  pub may_write : OnOk result (live ≡ true)

-- The source may be called again where nothing was refused and its end was not answered; after its end it is not
-- called.
pub record SourceLeft {S T : Type 0} (ends_of reads_of : S → ℕ) (s s' : S) (live : Bool) (old new : Reading)
    (result : Result T RunError) : Type 0 where
  pub ends : ends_of s' ≡ ends_of s + end_step old.at_end new.at_end
  pub read_faults : reads_of s' ≡ reads_of s + read_fault_count result
  pub few_reads : new.taken + bit_of new.at_end + read_fault_count result ≤ new.max_reads
  pub may_read : OnOk result (new.at_end ≡ false → live ≡ true)
  pub still : old.at_end ≡ true → s' ≡ s
  pub not_failed : IsErrOf result Failed → ⊥
  pub not_stack : IsErrOf result Stack → ⊥
