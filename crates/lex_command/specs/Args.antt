-- What a command line asks for.
use Rattle.std.specs.Prelude.{◌≢◌, codes, string_bytes, ⊤}
use Rattle.lex_command.specs.declared.job.args.Job.{Job}
use Rattle.lex_command.specs.declared.job.args.Job.TheVariants.{Generate, ScanSpec, ScanTable}

-- a scan has a file by name: `-` would be standard input, which is scanned
abbrev pub IsNamed : Job → Type 0
IsNamed (ScanSpec file patterns quiet) = string_bytes file ≢ codes "-"
IsNamed (ScanTable file) = string_bytes file ≢ codes "-"
IsNamed (Generate files out stdout stats backup patterns quiet) = ⊤
