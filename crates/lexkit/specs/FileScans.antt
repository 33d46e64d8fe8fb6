-- A scan by the table file of a specification is a scan by the specification. (POSIX, lex: the scanner that is made
-- does what the specification says.)
use Rattle.std.specs.Prelude.{ℕ, Bool, List, Result, slice_index_or, false}
use Rattle.lex_semantics.specs.Spec.{Spec}
use Rattle.lex_semantics.specs.Rules.{rules_of}
use Rattle.lex_semantics.specs.Machine.{rules_of_machine}
use Rattle.lexauto.specs.declared.subsets.Limits.{Limits}
use Rattle.lexscan_window.specs.declared.error.RunError.{RunError}
use Rattle.lextab_packed.specs.Table.{Table}
use Rattle.lextab_packed.specs.Steps.{machine_of_table}
use Rattle.lextab_packed.specs.Invariant.{GoesOn}
use Rattle.lextab_packed.specs.Views.{table_of}
use Rattle.lextab_packed.specs.declared.tables.Tables.{Tables}
use Rattle.lextab_file.specs.File.{IsFileOf, file_of}
use Rattle.lexscan.specs.Runs.{Ran}
use Rattle.lexkit.specs.Headline.{max_reads}
use Rattle.lexkit.specs.Generated.{AreTablesOf}

-- What a scan by the rules of a table took, wrote and answered, where its file is that of the tables that are made of a
-- specification, is what a scan by the specification takes, writes and answers.
abbrev pub FileScans : Type 0
FileScans = (limits : Limits) (S : Spec) (made : Tables) → AreTablesOf limits S made
    → (t : Table) (flags : List Bool) → IsFileOf t (file_of (table_of made.parts)) → GoesOn t flags
    → (given out : List ℕ) (at_end : Bool) (answer : Result ℕ RunError)
    → Ran (rules_of_machine (machine_of_table t (λ s. slice_index_or flags s false))) given out at_end max_reads answer
    → Ran (rules_of S) given out at_end max_reads answer
