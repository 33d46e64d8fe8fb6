-- The machine of rules that were read once. (Own.)
use Rattle.std.specs.Prelude.{ℕ}
use Rattle.std.specs.Arc.{arc_value}
use Rattle.lex_semantics.specs.Machine.{Machine}
use Rattle.lex_semantics.specs.MachineLaws.{MachineLaws, StaysBelow}
use Rattle.lextab_packed.specs.FlatViews.{tables_of}
use Rattle.lextab_packed.specs.Machines.{table_machine, table_states, laws_of, below_of}
use Rattle.liblex_calls.specs.declared.rules.Rules.{Rules}

-- the machine of their tables
abbrev pub rules_machine : Rules → Machine
rules_machine r = table_machine (tables_of (arc_value r.flat))

-- how many states it has
abbrev pub rules_states : Rules → ℕ
rules_states r = table_states (tables_of (arc_value r.flat))

-- what their type keeps: its laws
abbrev pub rules_laws : (r : Rules) → MachineLaws (rules_machine r)
rules_laws r = laws_of (tables_of (arc_value r.flat))

-- and its bound
abbrev pub rules_below : (r : Rules) → StaysBelow (rules_machine r) (rules_states r)
rules_below r = below_of (tables_of (arc_value r.flat))
