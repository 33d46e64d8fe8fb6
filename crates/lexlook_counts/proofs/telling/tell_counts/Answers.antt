use Rattle.std.proofs.Common.{◌∙◌, ◌+◌, ap, refl}
use Rattle.lexspec.proofs.TestLaws.{spec_is_sound}
use Rattle.lexspec.specs.Views.{spec_of}
use Rattle.lexlook_counts.proofs.Told.{came_to, reads_of_run, refused_text, stopped_at, writes_of_run}
use Rattle.lexlook_counts.proofs.telling.tell_counts.Goals as goal

pub returns-in-Err-machines_of-clause-told : goal.returns-in-Err-machines_of-clause-told
returns-in-Err-machines_of-clause-told g c = (
  refused_text c.args.options c.args.text.now (spec_of c.in-Ok.spec) c.in-Err-machines_of.error c.in-Ok.ensures.spells c.in-Err-machines_of.ensures.refused,
  refl,
  refl,
)

pub returns-in-Err-tell_of-clause-told : goal.returns-in-Err-tell_of-clause-told
returns-in-Err-tell_of-clause-told g c =
    let S = spec_of c.in-Ok.spec in
    stopped_at g.S.Source.gave g.S.Source.ends g.S.Source.failures g.K.Sink.wrote c.args.options c.args.form c.args.text.now c.args.source.now c.tell_of.new.source c.args.sink.now c.tell_of.new.sink S (spec_is_sound S c.in-Ok.spec.sound)
    c.in-Ok.ensures.spells c.in-Ok-machines_of.machines c.in-Ok-machines_of.ensures.made c.in-Err-tell_of.error c.in-Err-tell_of.ensures.told

pub returns-in-Err-tell_of-clause-reads : goal.returns-in-Err-tell_of-clause-reads
returns-in-Err-tell_of-clause-reads g c = c.in-Err-tell_of.ensures.reads ∙ ap (λ n. g.S.Source.failures c.args.source.now + n) (reads_of_run c.in-Err-tell_of.error)

pub returns-in-Err-tell_of-clause-writes : goal.returns-in-Err-tell_of-clause-writes
returns-in-Err-tell_of-clause-writes g c = c.in-Err-tell_of.ensures.writes ∙ ap (λ n. g.K.Sink.failures c.args.sink.now + n) (writes_of_run c.in-Err-tell_of.error)

pub returns-clause-told : goal.returns-clause-told
returns-clause-told g c =
    let S = spec_of c.in-Ok.spec in
    came_to g.S.Source.gave g.S.Source.ends g.S.Source.failures g.K.Sink.wrote c.args.options c.args.form c.args.text.now c.args.source.now c.tell_of.new.source c.args.sink.now c.tell_of.new.sink S (spec_is_sound S c.in-Ok.spec.sound)
    c.in-Ok.ensures.spells c.in-Ok-machines_of.machines c.in-Ok-machines_of.ensures.made c.in-Ok-tell_of.status c.in-Ok-tell_of.ensures.told
