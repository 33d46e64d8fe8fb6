use Rattle.lextab_packed.specs.FlatViews.{tables_of}
use Rattle.lextab_packed.specs.Machines.{table_machine}
use Rattle.lextab_packed.proofs.Singling.{quiet_dropped}
use Rattle.lextab_packed.proofs.quiet.QuietMachine.dropped.Goals as goal

pub returns : goal.returns
returns c = quiet_dropped (table_machine (tables_of c.args.self.now.flat.now)) c.args.condition c.args.first c.args.bytes.now c.dropped.result c.dropped.ensures
