-- What is told of a failure of a program, and the status that it ends with. (Own: POSIX leaves it to the
-- implementation. 66 is that of BSD's sysexits.)
use Rattle.std.specs.Prelude.{◌≡◌, ℕ, string_bytes}
use Rattle.lexkit.specs.Faults.{status_of}
use Rattle.lexkit.specs.declared.failure.Failure.{Failure}
use Rattle.lexkit.specs.declared.failure.Failure.TheVariants.{Usage, Scan, File, Output}
use Rattle.lexkit.specs.declared.errors.GenError.TheVariants as gens
use Rattle.lexkit.specs.declared.errors.ScanError.TheVariants as scans
use Rattle.lexkit.specs.declared.faults.Fault.{Fault}
use Rattle.lexkit.specs.declared.faults.Fault.TheVariants as faults

abbrev pub out_of_memory : Failure
out_of_memory = Scan (scans.Generate gens.OutOfMemory)

-- the failure is told so
abbrev pub IsReportedAs : Failure → Fault → Type 0
IsReportedAs Usage fault = fault ≡ faults.Usage
IsReportedAs (Scan e) fault = fault ≡ faults.Scan e
IsReportedAs (File name) (faults.File told) = told.now ≡ string_bytes name
IsReportedAs (File name) other = ⊥
IsReportedAs Output fault = fault ≡ faults.Output

-- the status with which lex ends for it
abbrev pub told_status : Failure → ℕ
told_status Usage = status_of faults.Usage
told_status (Scan e) = status_of (faults.Scan e)
told_status (File name) = 66
told_status Output = status_of faults.Output
