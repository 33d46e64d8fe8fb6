-- A flat table in which rules that do nothing but REJECT fit no text. (flex, Actions.)
use Rattle.lex_semantics.specs.Machine.{Machine}
use Rattle.lex_semantics.specs.MachineLaws.{MachineLaws, StaysBelow}
use Rattle.lex_machine.specs.Quiets.{quiet}
use Rattle.lex_machine.proofs.Quieting.{quiet_laws, quiet_below}
use Rattle.lextab_packed.specs.FlatViews.{tables_of}
use Rattle.lextab_packed.specs.Machines.{table_machine, table_states, laws_of, below_of}
use Rattle.lextab_packed.specs.declared.quiet.Quiet.{Quiet}

-- its machine, with the laws that it keeps
abbrev pub quiet_machine : Quiet → Machine
quiet_machine q = quiet (table_machine (tables_of q.flat.now))

abbrev pub quiet_machine_laws : (q : Quiet) → MachineLaws (quiet_machine q)
quiet_machine_laws q = quiet_laws (table_machine (tables_of q.flat.now)) (laws_of (tables_of q.flat.now))

abbrev pub quiet_machine_below : (q : Quiet) → StaysBelow (quiet_machine q) (table_states (tables_of q.flat.now))
quiet_machine_below q =
    quiet_below (table_machine (tables_of q.flat.now)) (table_states (tables_of q.flat.now))
    (below_of (tables_of q.flat.now))
