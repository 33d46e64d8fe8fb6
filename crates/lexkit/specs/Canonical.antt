-- The table file that a specification's rules have, whatever computes it. (This project's; rows and slots: Aho, Sethi
-- and Ullman, Compilers, 3.9.)
use Rattle.std.specs.Prelude.{ℕ, Bool, List, length}
use Rattle.lex_semantics.specs.Spec.{Spec}
use Rattle.lex_semantics.specs.TableFor.{TableFor}
use Rattle.lexauto_dfa.specs.LeastMachines.{IsLeastMachine, IsNumberedMachine}
use Rattle.lextab_packed.specs.Table.{Table}
use Rattle.lextab_packed.specs.Steps.{step_of, machine_of_table}
use Rattle.lextab.specs.Packing.{IsPacked}
use Rattle.lextab_file.specs.File.{IsFileOf}

-- The bytes are the file of a table for the specification. But for the dead state its machine has one state for each
-- future that words have, numbered in the order of the first call, and its rows are packed.
pub record IsCanonicalFor (S : Spec) (t : Table) (goes_on : ℕ → Bool) (f : List ℕ) : Type 0 where
  pub table_for : TableFor (machine_of_table t goes_on) S
  pub least : IsLeastMachine (machine_of_table t goes_on) (length t.rows)
  pub numbered : IsNumberedMachine (machine_of_table t goes_on) (length t.rows)
  pub packed : IsPacked (length t.rows) (step_of t) t
  pub file : IsFileOf t f

abbrev pub IsCanonical : Spec → List ℕ → Type 0
IsCanonical S f = (t : Table) × (goes_on : ℕ → Bool) × IsCanonicalFor S t goes_on f
