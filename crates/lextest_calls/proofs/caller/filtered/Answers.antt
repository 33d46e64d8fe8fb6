use Rattle.std.proofs.Common.{ap, sym, subst}
use Rattle.std.specs.Io.KnownBytes.{Appends}
use Rattle.lex_semantics.specs.Rules.{rules_of}
use Rattle.lexspec.specs.Files.{SpellsSpec}
use Rattle.lex_io.specs.Source.{Gives}
use Rattle.lexkit.specs.Headline.{reading}
use Rattle.lextest_calls.proofs.Filtering.{runs}
use Rattle.lextest_calls.proofs.caller.filtered.Goals as goal

pub returns : goal.returns
returns g c =
    let (S, spells, within, scans) = c.in_ok-scan_spec.ensures.told in
    let s' = c.scan_spec.new.source in
    let source = subst (λ r. Gives (g.R.Read.remaining r) (g.R.Read.remaining s'.reader) c.new-source.result.ends s'.ends scans.given) c.new-source.ensures.reader scans.source in
    let sink = subst (λ w. Appends (g.W.Write.contents w) (g.W.Write.contents c.scan_spec.new.sink.writer) scans.out) c.new-sink.ensures.writer scans.sink in (
      S,
      subst (λ how. SpellsSpec how c.args.rules.now S) (ap reading c.new.ensures) spells,
      (
        scans.out,
        c.in_ok-scan_spec.field-0,
        subst (λ w. Appends (g.W.Write.contents c.args.writer) (g.W.Write.contents w) scans.out) (sym c.into_inner.ensures) sink,
        runs (rules_of S) scans.given scans.out c.in_ok-scan_spec.field-0 (g.R.Read.remaining c.args.reader) (g.R.Read.remaining s'.reader) c.new-source.result.ends s'.ends source scans.ran,
      ),
    )
