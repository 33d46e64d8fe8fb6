use Rattle.lextab_packed.specs.FlatViews.{tables_of}
use Rattle.lextab_packed.specs.Machines.{table_machine}
use Rattle.lextab_packed.proofs.Singling.{quiet_copied}
use Rattle.lextab_packed.proofs.quiet.QuietMachine.copied.Goals as goal

pub returns : goal.returns
returns c = quiet_copied (table_machine (tables_of c.args.self.now.flat.now)) c.args.condition c.args.first c.args.bytes.now c.copied.result c.copied.ensures
