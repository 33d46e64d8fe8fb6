use Rattle.std.proofs.Common.{sym, subst}
use Rattle.std.specs.Io.KnownBytes.{Appends}
use Rattle.lex_semantics.specs.Machine.{rules_of_machine}
use Rattle.lextab_packed.specs.Machines.{table_machine}
use Rattle.lex_io.specs.Source.{Gives}
use Rattle.lextest_calls.proofs.Filtering.{runs}
use Rattle.lextest_calls.proofs.caller.filtered_by.Goals as goal

pub returns : goal.returns
returns g c =
    let (given, out, gave, wrote, ran, few) = c.in_ok-run.ensures.ran in
    let s' = c.run.new.source in
    let source = subst (λ r. Gives (g.R.Read.remaining r) (g.R.Read.remaining s'.reader) c.new-source.result.ends s'.ends given) c.new-source.ensures.reader gave in
    let sink = subst (λ w. Appends (g.W.Write.contents w) (g.W.Write.contents c.run.new.sink.writer) out) c.new-sink.ensures.writer wrote in (
      out,
      c.in_ok-run.field-0,
      subst (λ w. Appends (g.W.Write.contents c.args.writer) (g.W.Write.contents w) out) (sym c.into_inner.ensures) sink,
      runs (rules_of_machine (table_machine c.args.tables.now)) given out c.in_ok-run.field-0 (g.R.Read.remaining c.args.reader) (g.R.Read.remaining s'.reader) c.new-source.result.ends s'.ends source ran,
    )
