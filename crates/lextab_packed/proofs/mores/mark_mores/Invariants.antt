use Rattle.std.proofs.Common.{◌≡◌, length}
use Rattle.lextab_packed.specs.Mores.{TellMore}
use Rattle.lextab_packed.specs.Machines.{table_machine, table_states}
use Rattle.lextab_packed.proofs.mores.mark_mores.Given as goal

abbrev pub invariant-loop-state : goal.invariant-loop-state
invariant-loop-state l = record {
  len : length l.mores.items ≡ table_states l.tables;
  told : TellMore (table_machine l.tables) l.mores.items;
}
