use Rattle.lex_machine.proofs.Quieting.{same_quiet}
use Rattle.lextab_packed.specs.FlatViews.{tables_of}
use Rattle.lextab_packed.specs.Machines.{table_machine, laws_of}
use Rattle.lextab_packed.proofs.flat.Flat.quiet.Goals as goal

pub returns-clause-scan : goal.returns-clause-scan
returns-clause-scan c = λ x text. same_quiet (table_machine (tables_of c.args.self.now)) (laws_of (tables_of c.args.self.now)) x
