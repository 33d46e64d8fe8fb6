use Rattle.std.proofs.Common.{◌≡◌, length}
use Rattle.lextab_packed.specs.Begun.{TellBegun}
use Rattle.lextab_packed.specs.Machines.{table_machine, table_states}
use Rattle.lextab_packed.proofs.begun.tell_begun.Given as goal

abbrev pub invariant-loop-state : goal.invariant-loop-state
invariant-loop-state l = record {
  len : length l.begun.items ≡ table_states l.tables;
  told : TellBegun (table_machine l.tables) l.begun.items;
}
