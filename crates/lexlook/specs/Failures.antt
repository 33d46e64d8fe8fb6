-- The line in which lexlook reports a failure. (This project's. The reasons are those of POSIX, Error Numbers, with the
-- numbers and the words that Linux has for them.)
use Rattle.std.specs.Prelude.{ℕ, ◌==◌, Bool, false, if◌then◌else◌, List, [], ◌∷◌, ◌++◌, codes, string_bytes}
use Rattle.std.specs.List.{concat}
use Rattle.lexkit.specs.Faults.{with_newline, scan_status, scan_words}
use Rattle.lexkit.specs.Failures.{told_status}
use Rattle.lexkit.specs.declared.failure.Failure.{Failure}
use Rattle.lexkit.specs.declared.failure.Failure.TheVariants.{Usage, Scan, File, Output}
use Rattle.lexlook.specs.declared.failure.LookFailure.{LookFailure}
use Rattle.lexlook.specs.declared.failure.LookFailure.TheVariants.{Plain, Refused, Table, Unread}

-- why a file cannot be read, by the system's number
abbrev pub reason_words : ℕ → List ℕ
reason_words n =
    if n == 2 then codes "No such file or directory"
    else if n == 5 then codes "Input/output error"
    else if n == 13 then codes "Permission denied"
    else if n == 20 then codes "Not a directory"
    else if n == 21 then codes "Is a directory"
    else if n == 36 then codes "File name too long"
    else if n == 40 then codes "Too many levels of symbolic links"
    else codes "cannot be read"

-- what lex says of it
abbrev pub told_words : Failure → List ℕ
told_words Usage = codes "usage"
told_words (Scan e) = scan_words e
told_words (File name) = concat (codes "cannot read " ∷ string_bytes name ∷ [])
told_words Output = codes "write fault"

-- a specification, its automaton or a table is refused
abbrev pub is_refusal : Failure → Bool
is_refusal (Scan e) = scan_status e == 65
is_refusal failure = false

-- what a line begins with
abbrev pub failure_front : LookFailure → List ℕ
failure_front (Plain failure) = codes "lexlook: "
failure_front (Refused file failure) = concat (codes "lexlook: " ∷ string_bytes file ∷ codes ": " ∷ [])
failure_front (Table file) = concat (codes "lexlook: " ∷ string_bytes file ∷ codes ": " ∷ [])
failure_front (Unread file reason) = concat (codes "lexlook: " ∷ string_bytes file ∷ codes ": " ∷ [])

abbrev pub failure_words : LookFailure → List ℕ
failure_words (Plain failure) = told_words failure
failure_words (Refused file failure) = told_words failure
failure_words (Table file) = codes "a table file, and no specification"
failure_words (Unread file reason) = reason_words reason

abbrev pub failure_line : LookFailure → List ℕ
failure_line failure = failure_front failure ++ with_newline (failure_words failure)

-- The program ends with that of lex, with 65 at a table file in the place of a specification, and with 66 where a file
-- cannot be read, for whatever reason. (BSD's sysexits.)
abbrev pub failure_status : LookFailure → ℕ
failure_status (Plain failure) = told_status failure
failure_status (Refused file failure) = told_status failure
failure_status (Table file) = 65
failure_status (Unread file reason) = 66
