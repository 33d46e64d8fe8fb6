-- What some command lines ask for, computed.
use Rattle.std.proofs.Common.{◌≡◌, ◌≢◌, ◌↔◌, ◌&&◌, refl, Bool, true, false, not, List, [], ◌∷◌, Option, Some, None, codes}
use Rattle.clap.specs.Words.{Row, Text, first_of, matches_of}
use Rattle.clap.proofs.OnLiterals.{clap_on_literals}
use Rattle.lex_command.specs.CommandLine.{IsJobOf, files_of, lex_app, makes_tables, reads_patterns}
use Rattle.lex_command.specs.Flags.{has_flag}
use Rattle.lex_command.specs.CommandExamples.{AsksForA, Making, Nothing, ScanningBy}
use Rattle.lex_command.specs.declared.job.args.Job.{Job}
use Rattle.lex_command.specs.declared.job.args.Job.TheVariants.{Generate, ScanSpec, ScanTable}

-- what was met asks for tables
making : (met : List Row) (names : List Text) (name : Option Text) (counts backs : Bool) → first_of (codes "scan-spec") met ≡ None
    → first_of (codes "scan-table") met ≡ None → files_of met ≡ names → first_of (codes "out") met ≡ name → has_flag (codes "stdout") met ≡ false
    → (has_flag (codes "stats") met && not (has_flag (codes "no-stats") met)) ≡ counts → has_flag (codes "backup") met ≡ backs → has_flag (codes "fold") met ≡ false
    → has_flag (codes "posix") met ≡ false → has_flag (codes "quiet") met ≡ false
    → (separated : Bool) (job : Job) → IsJobOf met separated job ↔ Making names name counts backs job
making met names name counts backs spec table files out stdout stats backup fold posix quiet separated (Generate o-files o-out o-stdout o-stats o-backup o-patterns o-quiet) =
    rw (spec, table, files, out, stdout, stats, backup, fold, posix, quiet) ((λ h. h), (λ h. h))
making met names name counts backs spec table files out stdout stats backup fold posix quiet separated (ScanSpec o-file o-patterns o-quiet) =
    rw (spec, table) ((λ h. h), (λ h. h))
making met names name counts backs spec table files out stdout stats backup fold posix quiet separated (ScanTable o-file) =
    rw (spec, table) ((λ h. h), (λ h. h))

-- what was met asks for a scan by a specification
scanning : (met : List Row) (name : Text) (folds : Bool) → first_of (codes "scan-spec") met ≡ Some name → first_of (codes "scan-table") met ≡ None
    → (name ≢ codes "-") → makes_tables met ≡ false → has_flag (codes "fold") met ≡ folds → has_flag (codes "posix") met ≡ false → has_flag (codes "quiet") met ≡ false
    → (job : Job) → IsJobOf met false job ↔ ScanningBy name folds job
scanning met name folds spec table named makes fold posix quiet (Generate o-files o-out o-stdout o-stats o-backup o-patterns o-quiet) = rw (spec, table) ((λ h. h), (λ h. h))
scanning met name folds spec table named makes fold posix quiet (ScanSpec o-file o-patterns o-quiet) =
    rw (spec, table, fold, posix, quiet) ((λ h. (h.0, h.3, h.4)), (λ h. (h.0, named, makes, h.1, h.2)))
scanning met name folds spec table named makes fold posix quiet (ScanTable o-file) = rw (spec, table) ((λ h. h), (λ h. h))

-- what only making takes stands beside a scan by a specification
makes_beside : (met : List Row) (name : Text) → first_of (codes "scan-spec") met ≡ Some name → first_of (codes "scan-table") met ≡ None
    → makes_tables met ≡ true → (job : Job) → IsJobOf met false job → ⊥
makes_beside met name spec table makes (Generate o-files o-out o-stdout o-stats o-backup o-patterns o-quiet) h = rw (spec, table) at h
makes_beside met name spec table makes (ScanSpec o-file o-patterns o-quiet) h =
    let beside = rw (spec, table) at h in
    let bad : makes_tables met ≡ false = beside.2 in
    cc
makes_beside met name spec table makes (ScanTable o-file) h = rw (spec, table) at h

-- what only reading patterns takes stands beside a scan by a table
reads_beside : (met : List Row) (name : Text) → first_of (codes "scan-spec") met ≡ None → first_of (codes "scan-table") met ≡ Some name
    → reads_patterns met ≡ true → (job : Job) → IsJobOf met false job → ⊥
reads_beside met name spec table reads (Generate o-files o-out o-stdout o-stats o-backup o-patterns o-quiet) h = rw (spec, table) at h
reads_beside met name spec table reads (ScanSpec o-file o-patterns o-quiet) h = rw (spec, table) at h
reads_beside met name spec table reads (ScanTable o-file) h =
    let beside = rw (spec, table) at h in
    let bad : reads_patterns met ≡ false = beside.3 in
    cc

-- the specification of a scan is standard input
by_input : (met : List Row) → first_of (codes "scan-spec") met ≡ Some (codes "-") → first_of (codes "scan-table") met ≡ None
    → (job : Job) → IsJobOf met false job → ⊥
by_input met spec table (Generate o-files o-out o-stdout o-stats o-backup o-patterns o-quiet) h = rw (spec, table) at h
by_input met spec table (ScanSpec o-file o-patterns o-quiet) h =
    let by = rw (spec, table) at h in
    absurd (by.1 refl)
by_input met spec table (ScanTable o-file) h = rw (spec, table) at h

-- a word is `--` beside a scan by a table
separated_scan : (met : List Row) (name : Text) → first_of (codes "scan-spec") met ≡ None → first_of (codes "scan-table") met ≡ Some name
    → (job : Job) → IsJobOf met true job → ⊥
separated_scan met name spec table job h = rw (spec, table) at h

pub no_words : AsksForA ([]) (Making [] None false false)
unfolding clap_on_literals
no_words job =
    let same = making (matches_of lex_app ([])) [] None false false refl refl refl refl refl refl refl refl refl refl false job in
    ((λ h. same.0 h.2), (λ h. (refl, refl, same.1 h)))

pub bundled : AsksForA (codes "-bv" ∷ []) (Making [] None true true)
unfolding clap_on_literals
bundled job =
    let same = making (matches_of lex_app (codes "-bv" ∷ [])) [] None true true refl refl refl refl refl refl refl refl refl refl false job in
    ((λ h. same.0 h.2), (λ h. (refl, refl, same.1 h)))

pub apart : AsksForA (codes "-b" ∷ codes "-v" ∷ []) (Making [] None true true)
unfolding clap_on_literals
apart job =
    let same = making (matches_of lex_app (codes "-b" ∷ codes "-v" ∷ [])) [] None true true refl refl refl refl refl refl refl refl refl refl false job in
    ((λ h. same.0 h.2), (λ h. (refl, refl, same.1 h)))

pub no_stats : AsksForA (codes "-n" ∷ codes "-v" ∷ []) (Making [] None false false)
unfolding clap_on_literals
no_stats job =
    let same = making (matches_of lex_app (codes "-n" ∷ codes "-v" ∷ [])) [] None false false refl refl refl refl refl refl refl refl refl refl false job in
    ((λ h. same.0 h.2), (λ h. (refl, refl, same.1 h)))

pub names : AsksForA (codes "a" ∷ codes "-ot" ∷ codes "b" ∷ []) (Making (codes "a" ∷ codes "b" ∷ []) (Some (codes "t")) false false)
unfolding clap_on_literals
names job =
    let same = making (matches_of lex_app (codes "a" ∷ codes "-ot" ∷ codes "b" ∷ [])) (codes "a" ∷ codes "b" ∷ []) (Some (codes "t")) false false refl refl refl refl refl refl refl refl refl refl false job in
    ((λ h. same.0 h.2), (λ h. (refl, refl, same.1 h)))

pub behind_separator : AsksForA (codes "--" ∷ codes "-b" ∷ []) (Making (codes "-b" ∷ []) None false false)
unfolding clap_on_literals
behind_separator job =
    let same = making (matches_of lex_app (codes "--" ∷ codes "-b" ∷ [])) (codes "-b" ∷ []) None false false refl refl refl refl refl refl refl refl refl refl true job in
    ((λ h. same.0 h.2), (λ h. (refl, refl, same.1 h)))

pub scan : AsksForA (codes "--scan-spec" ∷ codes "f" ∷ codes "-i" ∷ []) (ScanningBy (codes "f") true)
unfolding clap_on_literals
scan job =
    let same = scanning (matches_of lex_app (codes "--scan-spec" ∷ codes "f" ∷ codes "-i" ∷ [])) (codes "f") true refl refl (λ e. cc) refl refl refl refl job in
    ((λ h. same.0 h.2), (λ h. (refl, refl, same.1 h)))

pub table_with_fold : AsksForA (codes "--scan-table" ∷ codes "f" ∷ codes "-i" ∷ []) Nothing
unfolding clap_on_literals
table_with_fold job = ((λ h. reads_beside (matches_of lex_app (codes "--scan-table" ∷ codes "f" ∷ codes "-i" ∷ [])) (codes "f") refl refl refl job h.2), (λ h. absurd h))

pub scan_that_makes : AsksForA (codes "--scan-spec" ∷ codes "f" ∷ codes "-b" ∷ []) Nothing
unfolding clap_on_literals
scan_that_makes job = ((λ h. makes_beside (matches_of lex_app (codes "--scan-spec" ∷ codes "f" ∷ codes "-b" ∷ [])) (codes "f") refl refl refl job h.2), (λ h. absurd h))

pub value_behind_equals : AsksForA (codes "-o=t" ∷ []) Nothing
value_behind_equals job = ((λ h. let bad : true ≡ false = h.0 in cc), (λ h. absurd h))

pub unknown_flag : AsksForA (codes "-q" ∷ []) Nothing
unfolding clap_on_literals
unknown_flag job = ((λ h. cc), (λ h. absurd h))

pub scan_by_input : AsksForA (codes "--scan-spec" ∷ codes "-" ∷ []) Nothing
unfolding clap_on_literals
scan_by_input job = ((λ h. by_input (matches_of lex_app (codes "--scan-spec" ∷ codes "-" ∷ [])) refl refl job h.2), (λ h. absurd h))

pub scan_with_separator : AsksForA (codes "--scan-table" ∷ codes "f" ∷ codes "--" ∷ []) Nothing
unfolding clap_on_literals
scan_with_separator job =
    ((λ h. separated_scan (matches_of lex_app (codes "--scan-table" ∷ codes "f" ∷ codes "--" ∷ [])) (codes "f") refl refl job h.2), (λ h. absurd h))
