-- The line that tells what ended the program, and the status that it ends with.
-- (Own: POSIX leaves both to the implementation. The statuses are those of BSD's sysexits.)
use Rattle.std.specs.Prelude.{ℕ, Bool, true, false, if◌then◌else◌, List, [], ◌∷◌, ◌++◌, codes, decimal}
use Rattle.std.specs.List.{concat}
use Rattle.lexspec.specs.Refusals.PatternErrorKind.{PatternErrorKind}
use Rattle.lexspec.specs.Refusals.PatternErrorKind.TheVariants as patterns
use Rattle.lexspec.specs.Refusals.SpecErrorKind.{SpecErrorKind}
use Rattle.lexspec.specs.Refusals.SpecErrorKind.TheVariants as kinds
use Rattle.lexspec.specs.Refusals.SpecError.{SpecError}
use Rattle.lexspec.specs.Refusals.{kind_name}
use Rattle.lexauto.specs.declared.error.BuildError.{BuildError}
use Rattle.lexauto.specs.declared.error.BuildError.TheVariants as builds
use Rattle.lexscan_window.specs.declared.error.RunError.{RunError}
use Rattle.lexscan_window.specs.declared.error.RunError.TheVariants as runs
use Rattle.lextab_file.specs.declared.error.TableError.{TableError}
use Rattle.lextab_file.specs.declared.error.TableError.TheVariants as tables
use Rattle.lexkit.specs.declared.errors.GenError.{GenError}
use Rattle.lexkit.specs.declared.errors.GenError.TheVariants as gens
use Rattle.lexkit.specs.declared.errors.ScanError.{ScanError}
use Rattle.lexkit.specs.declared.errors.ScanError.TheVariants as scans
use Rattle.lexkit.specs.declared.faults.Fault.{Fault}
use Rattle.lexkit.specs.declared.faults.Fault.TheVariants as faults

-- the refusal says that memory ran out, and nothing of the specification
abbrev pub pattern_lacks_memory : PatternErrorKind → Bool
pattern_lacks_memory patterns.OutOfMemory = true
pattern_lacks_memory other = false

abbrev pub lacks_memory : SpecErrorKind → Bool
lacks_memory kinds.OutOfMemory = true
lacks_memory (kinds.Pattern e) = pattern_lacks_memory e.kind
lacks_memory other = false

-- where in a rule's pattern the refusal is
abbrev pub place_words : SpecErrorKind → List ℕ
place_words (kinds.Pattern e) = codes " at " ++ decimal e.at
place_words other = []

abbrev pub spec_words : SpecError → List ℕ
spec_words e =
    if lacks_memory e.kind then codes "out of memory"
    else concat (codes "line " ∷ decimal e.line ∷ codes ": " ∷ kind_name e.kind ∷ place_words e.kind ∷ [])

abbrev pub run_words : RunError → List ℕ
run_words runs.Read = codes "read fault"
run_words runs.TooManyReads = codes "too many reads"
run_words runs.Write = codes "write fault"
run_words runs.OutOfMemory = codes "out of memory"
run_words runs.Stack = codes "condition stack"
run_words runs.Failed = codes "failed"

abbrev pub build_words : BuildError → List ℕ
build_words builds.TooManyPositions = codes "TooManyPositions"
build_words builds.TooManyStates = codes "TooManyStates"
build_words builds.OutOfMemory = codes "out of memory"

abbrev pub gen_words : GenError → List ℕ
gen_words (gens.Spec e) = spec_words e
gen_words (gens.Build e) = build_words e
gen_words gens.OutOfMemory = codes "out of memory"

abbrev pub table_words : TableError → List ℕ
table_words tables.BadMagic = codes "table: BadMagic"
table_words tables.BadVersion = codes "table: BadVersion"
table_words tables.Truncated = codes "table: Truncated"
table_words tables.TrailingBytes = codes "table: TrailingBytes"
table_words (tables.BadField at) = concat (codes "table: BadField at " ∷ decimal at ∷ [])
table_words tables.OutOfMemory = codes "out of memory"

abbrev pub scan_words : ScanError → List ℕ
scan_words (scans.Generate e) = gen_words e
scan_words (scans.Table e) = table_words e
scan_words (scans.Run e) = run_words e

abbrev pub fault_words : Fault → List ℕ
fault_words faults.Usage = codes "usage"
fault_words (faults.Scan e) = scan_words e
fault_words (faults.File name) = concat (codes "cannot read " ∷ name.now ∷ [])
fault_words faults.Output = codes "write fault"

-- words at the end of a line
abbrev pub with_newline : List ℕ → List ℕ
with_newline words = words ++ (10 ∷ [])

-- the words as a line of the program
abbrev pub line_of : List ℕ → List ℕ
line_of words = codes "lex: " ++ with_newline words

-- The statuses: 64 a command line, 65 a specification, its automaton or a table, 66 a file that cannot be read, 70 a
-- fault of the stack of conditions, 71 want of memory, 74 a read, a write or too many reads.
abbrev pub spec_status : SpecError → ℕ
spec_status e = if lacks_memory e.kind then 71 else 65

abbrev pub run_status : RunError → ℕ
run_status runs.Stack = 70
run_status runs.OutOfMemory = 71
run_status other = 74

abbrev pub build_status : BuildError → ℕ
build_status builds.OutOfMemory = 71
build_status other = 65

abbrev pub gen_status : GenError → ℕ
gen_status (gens.Spec e) = spec_status e
gen_status (gens.Build e) = build_status e
gen_status gens.OutOfMemory = 71

abbrev pub table_status : TableError → ℕ
table_status tables.OutOfMemory = 71
table_status other = 65

abbrev pub scan_status : ScanError → ℕ
scan_status (scans.Generate e) = gen_status e
scan_status (scans.Table e) = table_status e
scan_status (scans.Run e) = run_status e

abbrev pub status_of : Fault → ℕ
status_of faults.Usage = 64
status_of (faults.Scan e) = scan_status e
status_of (faults.File name) = 66
status_of faults.Output = 74
