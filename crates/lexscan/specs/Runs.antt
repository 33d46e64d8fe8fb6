-- What a whole run leaves.
use Rattle.std.specs.Prelude.{◌≡◌, ℕ, ◌+◌, ◌-◌, ◌^◌, ◌<◌, ◌≤◌, Bool, false, List, length, Result, Ok, Err, IsErrOf}
use Rattle.lex_semantics.specs.Rules.{Rules}
use Rattle.lex_semantics.specs.Acting.{Status, StackFault}
use Rattle.lex_semantics.specs.Machine.{Machine}
use Rattle.lexscan_window.specs.declared.state.State.{State}
use Rattle.lexscan_window.specs.declared.error.RunError.{RunError}
use Rattle.lexscan_window.specs.declared.error.RunError.TheVariants.{TooManyReads, Stack, Failed}
use Rattle.lexscan_window.specs.Reads.{read_fault_count, write_fault_count}
use Rattle.lexscan.specs.TurnInvariants.{TurnInvariant, RefusedTurn, RunCompleted}

-- After some turns these bytes were given and written.
pub record Running {S K : Type 0} (M : Machine) (gave : S → List ℕ → S → Type 0) (wrote : K → List ℕ → K → Type 0)
    (s s' : S) (t t' : K) (now : State) : Type 0 where
  pub turns : ℕ
  pub given : List ℕ
  pub out : List ℕ
  pub source : gave s given s'
  pub sink : wrote t out t'
  pub invariant : TurnInvariant M turns given out now

-- The run was stopped by a refused turn: what was written is a front of what the run of each consistent input writes;
-- where the stack was at fault, it is all of it, and the run ends so.
pub record RunStopped (R : Rules) (given out : List ℕ) (at_end : Bool) (max_reads : ℕ) (e : RunError) : Type 0 where
  pub turns : ℕ
  pub had : ℕ
  pub refused_turn : RefusedTurn R given at_end turns had out e
  pub too_many : e ≡ TooManyReads → (length given ≡ max_reads) × (at_end ≡ false)
  pub fault : e ≡ Stack → RunCompleted R given out at_end StackFault

abbrev pub Ran : Rules → List ℕ → List ℕ → Bool → ℕ → Result ℕ RunError → Type 0
Ran R given out at_end max_reads (Ok status) = RunCompleted R given out at_end (Status status)
Ran R given out at_end max_reads (Err e) = RunStopped R given out at_end max_reads e

-- The bytes given, the answers of the end and the failed reads are together no more than this.
abbrev pub FewReads : {S : Type 0} → (S → ℕ) → (S → ℕ) → S → S → List ℕ → ℕ → Type 0
FewReads ends_of reads_of s s' given max_reads =
    length given + (ends_of s' - ends_of s) + (reads_of s' - reads_of s) ≤ max_reads

-- The counts of both ends have room for one more.
pub record FewCounts {S K : Type 0} (ends_of reads_of : S → ℕ) (writes_of : K → ℕ) (s : S) (t : K) : Type 0 where
  pub ends : ends_of s < 2 ^ 64 - 1
  pub reads : reads_of s < 2 ^ 64 - 1
  pub writes : writes_of t < 2 ^ 64 - 1

-- What a run adds to the counts of the two ends.
pub record RunCounts {S K : Type 0} (ends_of reads_of : S → ℕ) (writes_of : K → ℕ) (s s' : S) (t t' : K)
    (result : Result ℕ RunError) : Type 0 where
  pub ends_stay : ends_of s ≤ ends_of s'
  pub one_end : ends_of s' ≤ ends_of s + 1
  pub read_faults : reads_of s' ≡ reads_of s + read_fault_count result
  pub write_faults : writes_of t' ≡ writes_of t + write_fault_count result
  pub not_failed : IsErrOf result Failed → ⊥
