use Rattle.std.proofs.Common.{◌-◌, length}
use Rattle.lex_machine.specs.Singles.{IsDropped}
use Rattle.lextab_packed.specs.Machines.{table_machine}
use Rattle.lextab_packed.specs.Singles.{FirstAre}
use Rattle.lextab_packed.proofs.flat.Flat.dropped_singly.Given as goal

abbrev pub invariant-run : goal.invariant-run
invariant-run l = FirstAre (IsDropped (table_machine l.self.tables) l.first) l.bytes l.count

abbrev pub decreases-run : goal.decreases-run
decreases-run l = length l.bytes - l.count
