-- What some command lines ask for.
use Rattle.std.specs.Prelude.{◌≡◌, ◌↔◌, Bool, false, List, Option, map}
use Rattle.std.specs.Prelude.{option_map, string_bytes}
use Rattle.clap.specs.Words.{Text}
use Rattle.lex_command.specs.CommandLine.{AsksFor}
use Rattle.lex_command.specs.declared.job.args.Job.{Job}
use Rattle.lex_command.specs.declared.job.args.Job.TheVariants.{Generate, ScanSpec}

-- the words ask for a job of which P holds, and for no other
abbrev pub AsksForA : List Text → (Job → Type 0) → Type 0
AsksForA words P = (job : Job) → AsksFor words job ↔ P job

-- no job
abbrev pub Nothing : Job → Type 0
Nothing job = ⊥

-- tables of these files, in this file; of the flags, `-v` without `-n`, and `-b`, as they are told
abbrev pub Making : List Text → Option Text → Bool → Bool → Job → Type 0
Making names name counts backs (Generate files out stdout stats backup patterns quiet) =
    (map string_bytes files.items ≡ names)
    × (option_map string_bytes out ≡ name)
    × (stdout ≡ false)
    × (stats ≡ counts)
    × (backup ≡ backs)
    × (patterns ≡ record { fold = false; posix = false })
    × (quiet ≡ false)
Making names name counts backs _ = ⊥

-- a scan by the specification in this file, with `-i` as it is told, and neither `-X` nor `-w`
abbrev pub ScanningBy : Text → Bool → Job → Type 0
ScanningBy name folds (ScanSpec file patterns quiet) =
    (string_bytes file ≡ name) × (patterns ≡ record { fold = folds; posix = false }) × (quiet ≡ false)
ScanningBy name folds _ = ⊥
