-- What is told of a fault while something is shown. (This project's.)
use Rattle.std.specs.Prelude.{ℕ, Result, Ok, Err}
use Rattle.lexkit.specs.declared.errors.ScanError.TheVariants as scans
use Rattle.lexkit.specs.declared.failure.Failure.{Failure}
use Rattle.lexkit.specs.declared.failure.Failure.TheVariants.{Scan, Output}
use Rattle.lexkit.specs.Failures.{out_of_memory}
use Rattle.lexlook_specs.specs.declared.picture.error.PictureError.{PictureError}
use Rattle.lexlook_specs.specs.declared.picture.error.PictureError.TheVariants as pictures
use Rattle.lexlook_calls.specs.declared.error.LookError.{LookError}
use Rattle.lexlook_calls.specs.declared.error.LookError.TheVariants.{Refused, Table, OutOfMemory, Write}

-- how the program reports it: a refused specification or table file as a scan does
abbrev pub failure_of : LookError → Failure
failure_of (Refused e) = Scan (scans.Generate e)
failure_of (Table e) = Scan (scans.Table e)
failure_of OutOfMemory = out_of_memory
failure_of Write = Output

abbrev pub told_of : PictureError → LookError
told_of pictures.OutOfMemory = OutOfMemory
told_of pictures.Write = Write

-- 1 where the answer is a write fault
abbrev pub look_fault_count : {T : Type 0} → Result T LookError → ℕ
look_fault_count (Ok v) = 0
look_fault_count (Err Write) = 1
look_fault_count (Err (Refused e)) = 0
look_fault_count (Err (Table e)) = 0
look_fault_count (Err OutOfMemory) = 0
