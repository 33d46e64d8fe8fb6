-- What packed tables are made of, and their machine with its laws. (This project's.)
use Rattle.std.specs.Prelude.{ℕ, Bool, List, length, slice_index_or, false}
use Rattle.lex_semantics.specs.Machine.{Machine}
use Rattle.lex_semantics.specs.MachineLaws.{MachineLaws, StaysBelow}
use Rattle.lextab_packed.specs.Steps.{machine_of_table}
use Rattle.lextab_packed.specs.Views.{table_of}
use Rattle.lextab_packed.specs.declared.parts.TableParts.{TableParts}
use Rattle.lextab_packed.specs.declared.tables.Tables.{Tables}

-- the parts of which they are made
abbrev pub table_parts : Tables → TableParts
table_parts t = t.parts

-- the flags that say which states go on
abbrev pub flags_of : Tables → List Bool
flags_of t = t.goes_on.items

abbrev pub table_machine : Tables → Machine
table_machine t = machine_of_table (table_of t.parts) (λ s. slice_index_or t.goes_on.items s false)

abbrev pub table_states : Tables → ℕ
table_states t = length t.parts.rows.items

-- what the type keeps: the machine keeps its laws, and stays below the count of states
abbrev pub laws_of : (t : Tables) → MachineLaws (table_machine t)
laws_of t = t.laws

abbrev pub below_of : (t : Tables) → StaysBelow (table_machine t) (table_states t)
below_of t = t.below
