use Rattle.std.proofs.Common.{arith}
use Rattle.lex_machine.specs.Singles.{IsDropped}
use Rattle.lextab_packed.specs.Machines.{table_machine}
use Rattle.lextab_packed.proofs.Singling.{none_are, others_dropped}
use Rattle.lextab_packed.proofs.flat.Flat.leap_dropped.Goals as goal

pub returns-in-Some : goal.returns-in-Some
returns-in-Some c =
    others_dropped c.args.self.now c.args.first c.args.bytes.now c.pass_over.result c.in-Some.kept c.requires.first (c.requires.kept c.in-Some.kept c.in-Some.is)
    (λ i. let small = c.type_inv.bytes i in omega (arith, small)) c.pass_over.ensures

pub returns-in-None : goal.returns-in-None
returns-in-None c = none_are (IsDropped (table_machine c.args.self.now.tables) c.args.first) c.args.bytes.now
