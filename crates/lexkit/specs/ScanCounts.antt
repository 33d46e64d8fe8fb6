-- How often the ends of a scan failed, and what was handed on, by its answer.
use Rattle.std.specs.Prelude.{◌≡◌, ℕ, ◌+◌, ◌≤◌, Bool, true, Result, Ok, Err, ⊤, IsErrOf}
use Rattle.lexscan_window.specs.declared.error.RunError.TheVariants as runs
use Rattle.lexkit.specs.declared.errors.ScanError.{ScanError}
use Rattle.lexkit.specs.declared.errors.ScanError.TheVariants.{Run}

-- 1 where the scan stopped at a failure of its source
abbrev pub read_faults : {T : Type 0} → Result T ScanError → ℕ
read_faults (Err (Run runs.Read)) = 1
read_faults other = 0

-- 1 where the scan stopped at a failure of its sink
abbrev pub write_faults : {T : Type 0} → Result T ScanError → ℕ
write_faults (Err (Run runs.Write)) = 1
write_faults other = 0

-- where the scan has ended, or the stack of conditions was at fault, what was written has been handed on
abbrev pub HandedOnAtEnd : Bool → Result ℕ ScanError → Type 0
HandedOnAtEnd flushed (Ok status) = flushed ≡ true
HandedOnAtEnd flushed (Err (Run runs.Stack)) = flushed ≡ true
HandedOnAtEnd flushed other = ⊤

-- What a scan adds to the counts of its source and of its sink. Where it has ended, what was written has been handed
-- on. It is never answered that a turn had failed before.
pub record ScanCounts {S K : Type 0} (ends_of reads_of : S → ℕ) (writes_of : K → ℕ) (is_flushed : K → Bool) (s s' : S)
    (t t' : K)
    (answer : Result ℕ ScanError) : Type 0 where
  pub ends_stay : ends_of s ≤ ends_of s'
  pub one_end : ends_of s' ≤ ends_of s + 1
  pub read_faults : reads_of s' ≡ reads_of s + read_faults answer
  pub write_faults : writes_of t' ≡ writes_of t + write_faults answer
  pub handed_on : HandedOnAtEnd (is_flushed t') answer
  pub not_failed : IsErrOf answer (Run runs.Failed) → ⊥
