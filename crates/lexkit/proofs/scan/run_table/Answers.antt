use Rattle.std.specs.Prelude.{nat_lt}
use Rattle.lex_semantics.specs.Machine.{rules_of_machine}
use Rattle.lextab_packed.specs.FlatViews.{tables_of}
use Rattle.lextab_packed.specs.Machines.{table_machine}
use Rattle.lextab_packed.specs.Quiets.{quiet_machine}
use Rattle.lexkit.specs.Headline.{max_reads}
use Rattle.lexkit.proofs.Carried.{ran_to}
use Rattle.lexkit.proofs.scan.run_table.Goals as goal

pub returns-in-Ok-clause-ran : goal.returns-in-Ok-clause-ran
returns-in-Ok-clause-ran g c =
    let h = c.run.ensures.ran in (
      h.0,
      h.1,
      h.2,
      h.3,
      ran_to (rules_of_machine (quiet_machine c.in-Ok.quiet)) (rules_of_machine (table_machine (tables_of c.args.table.now))) c.in-Ok.ensures.scan h.0 h.1
          (nat_lt (g.S.Source.ends c.args.source.now) (g.S.Source.ends c.run.new.source)) max_reads c.run.result h.4,
      h.5,
    )
