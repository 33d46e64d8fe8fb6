-- What a scan of a whole input into a buffer of the caller leaves. (What is written is that of POSIX and flex; the rest
-- is own.)
use Rattle.std.specs.Prelude.{◌≡◌, ℕ, ◌≤◌, List, length}
use Rattle.lex_semantics.specs.Acting.{Ending, Status, StackFault}
use Rattle.lex_semantics.specs.Run.{Run}
use Rattle.lextab_packed.specs.Table.{Table}
use Rattle.lextab_file.specs.File.{IsFileOf}
use Rattle.lexkit.specs.Headline.{max_reads}
use Rattle.lextab_file.specs.declared.error.TableError.{TableError}
use Rattle.lextab_file.specs.declared.error.TableError.TheVariants as tables
use Rattle.lexscan_window.specs.declared.error.RunError.{RunError}
use Rattle.lexscan_window.specs.declared.error.RunError.TheVariants as runs
use Rattle.lexkit.specs.declared.errors.ScanError.{ScanError}
use Rattle.lexkit.specs.declared.errors.ScanError.TheVariants as scans
use Rattle.liblex_calls.specs.Buffers.{HandedOut, FitsInto, NothingOut}
use Rattle.liblex_calls.specs.Files.{ByFile}
use Rattle.liblex_calls.specs.declared.answer.Answer.{Answer}
use Rattle.liblex_calls.specs.declared.answer.Answer.TheVariants as answers

-- The rules of the table file write these bytes for the input and end so.
abbrev pub RunsByFile : List ℕ → List ℕ → List ℕ → Ending → Type 0
RunsByFile file input out ending = ByFile file (λ R. Run R input out ending)

-- The run of the input was handed out, with the status that it ends with.
pub record RunHandedOut (file input old new : List ℕ) (count status : ℕ) (answer : Answer) : Type 0 where
  pub out : List ℕ
  pub run : RunsByFile file input out (Status status)
  pub handed : HandedOut out old new count
  pub fits : FitsInto out old answer

-- So was the run that ends at a fault of the stack of conditions.
pub record FaultHandedOut (file input old new : List ℕ) (count : ℕ) : Type 0 where
  pub out : List ℕ
  pub run : RunsByFile file input out StackFault
  pub handed : HandedOut out old new count

-- What the call leaves, by what it answers.
abbrev pub ScansInto : List ℕ → List ℕ → List ℕ → List ℕ → ℕ → ℕ → Answer → Type 0
ScansInto file input old new count status answers.Done = RunHandedOut file input old new count status answers.Done
ScansInto file input old new count status answers.TooSmall =
    RunHandedOut file input old new count status answers.TooSmall
ScansInto file input old new count status answers.Stack = FaultHandedOut file input old new count × (status ≡ 0)
ScansInto file input old new count status answers.Refused =
    ((t : Table) → IsFileOf t file → ⊥) × NothingOut old new count × (status ≡ 0)
ScansInto file input old new count status answers.TooManyReads =
    (max_reads ≤ length input) × NothingOut old new count × (status ≡ 0)
ScansInto file input old new count status answers.OutOfMemory = NothingOut old new count × (status ≡ 0)
ScansInto file input old new count status answers.Ended = ⊥
ScansInto file input old new count status answers.Closed = ⊥
ScansInto file input old new count status answers.More = ⊥

-- what a run that stopped is told as, and a table that was refused
abbrev pub TellsRun : RunError → List ℕ → List ℕ → List ℕ → ℕ → Answer → Type 0
TellsRun runs.Stack written old new count answer = (answer ≡ answers.Stack) × HandedOut written old new count
TellsRun runs.TooManyReads written old new count answer = (answer ≡ answers.TooManyReads) × NothingOut old new count
TellsRun other written old new count answer = (answer ≡ answers.OutOfMemory) × NothingOut old new count

abbrev pub TellsTable : TableError → List ℕ → List ℕ → ℕ → Answer → Type 0
TellsTable tables.OutOfMemory old new count answer = (answer ≡ answers.OutOfMemory) × NothingOut old new count
TellsTable other old new count answer = (answer ≡ answers.Refused) × NothingOut old new count

abbrev pub TellsScan : ScanError → List ℕ → List ℕ → List ℕ → ℕ → Answer → Type 0
TellsScan (scans.Run e) written old new count answer = TellsRun e written old new count answer
TellsScan (scans.Table e) written old new count answer = TellsTable e old new count answer
TellsScan (scans.Generate e) written old new count answer = (answer ≡ answers.Refused) × NothingOut old new count
