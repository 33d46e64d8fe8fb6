-- The rules of a table file. (Own.)
use Rattle.std.specs.Prelude.{◌≡◌, ℕ, List, Bool}
use Rattle.lex_semantics.specs.Text.{flag}
use Rattle.lex_semantics.specs.Rules.{Rules}
use Rattle.lex_semantics.specs.Machine.{Machine, rules_of_machine}
use Rattle.lextab_packed.specs.Table.{Table}
use Rattle.lextab_packed.specs.Steps.{machine_of_table}
use Rattle.lextab_packed.specs.Invariant.{GoesOn}
use Rattle.lextab_file.specs.File.{IsFileOf}

-- the file is that of a table, and this holds of its rules
pub record ByFile (file : List ℕ) (Holds : Rules → Type 0) : Type 0 where
  pub table : Table
  pub is_file : IsFileOf table file
  pub goes_on : List Bool
  pub leads : GoesOn table goes_on
  pub holds : Holds (rules_of_machine (machine_of_table table (λ state. flag goes_on state)))

-- the machine of the table whose file this is
pub record IsMachineOf (file : List ℕ) (M : Machine) : Type 0 where
  pub table : Table
  pub is_file : IsFileOf table file
  pub goes_on : List Bool
  pub leads : GoesOn table goes_on
  pub is : M ≡ machine_of_table table (λ state. flag goes_on state)
