-- What loading a table leaves in what a program in C holds of it. (Own.)
use Rattle.std.specs.Prelude.{◌≡◌, ℕ, List, Some, None}
use Rattle.lextab_packed.specs.Table.{Table}
use Rattle.lextab_file.specs.File.{IsFileOf}
use Rattle.liblex_calls.specs.Handles.{loaded_in}
use Rattle.liblex_calls.specs.Rules.{rules_machine}
use Rattle.liblex_calls.specs.Files.{IsMachineOf}
use Rattle.liblex_calls.specs.declared.answer.Answer.{Answer}
use Rattle.liblex_calls.specs.declared.answer.Answer.TheVariants as answers
use Rattle.liblex_calls.specs.declared.rules.Rules.{Rules}
use Rattle.liblex_calls.specs.declared.tables.LoadedTables.{LoadedTables}

-- the rules are those of the table whose file this is
abbrev pub AreRulesOf : List ℕ → Rules → Type 0
AreRulesOf file rules = IsMachineOf file (rules_machine rules)

-- the table of this file is loaded there
abbrev pub HoldsTable : List ℕ → LoadedTables → Type 0
HoldsTable file tables = (rules : Rules) × (loaded_in tables ≡ Some rules) × AreRulesOf file rules

-- What loading leaves, by what it answers.
abbrev pub LoadsTable : List ℕ → LoadedTables → Answer → Type 0
LoadsTable file tables answers.Done = HoldsTable file tables
LoadsTable file tables answers.Refused = ((t : Table) → IsFileOf t file → ⊥) × (loaded_in tables ≡ None)
LoadsTable file tables answers.OutOfMemory = loaded_in tables ≡ None
LoadsTable file tables answers.TooSmall = ⊥
LoadsTable file tables answers.Ended = ⊥
LoadsTable file tables answers.Closed = ⊥
LoadsTable file tables answers.More = ⊥
LoadsTable file tables answers.Stack = ⊥
LoadsTable file tables answers.TooManyReads = ⊥
