use Rattle.std.proofs.Common.{◌-◌, length}
use Rattle.lex_machine.specs.Singles.{IsCopied}
use Rattle.lextab_packed.specs.Machines.{table_machine}
use Rattle.lextab_packed.specs.Singles.{FirstAre}
use Rattle.lextab_packed.proofs.flat.Flat.first_copied.Given as goal

abbrev pub invariant-run : goal.invariant-run
invariant-run l = FirstAre (IsCopied (table_machine l.self.tables) l.first) l.bytes l.count

abbrev pub decreases-run : goal.decreases-run
decreases-run l = length l.bytes - l.count
