use Rattle.lex_semantics.specs.Spec.{Spec}
use Rattle.lexspec.specs.Views.{spec_of}
use Rattle.lexkit.proofs.Canonical.{back_ups_of}
use Rattle.lexkit.proofs.making.all_of.Goals as goal

pub returns : goal.returns
returns c =
    let S : Spec = spec_of c.args.spec.now in
    let l = c.requires.least in
    let b = c.in_ok-backup.ensures in
    record {
      made = c.in_ok-made.ensures.made;
      backup = back_ups_of S c.args.least.now.automaton c.in_ok-made.made.tables c.in_ok-backup.backup.items l.conditions c.in_ok-made.ensures.machine b.ascending (b.back_words S l.conditions l.table) b.words;
    }
