use Rattle.std.proofs.Common.{arith}
use Rattle.std.proofs.lemmas.List.{length-map}
use Rattle.lextab_packed.specs.Views.{row_of, table_of}
use Rattle.lextab_packed.proofs.Preceding.{each_step}
use Rattle.lextab_packed.proofs.predecessors.sources_of.Goals as goal

pub returns-clause-each : goal.returns-clause-each
returns-clause-each c = λ s b h k.
    let p = c.args.parts.now in
    let t = table_of p in
    let sources = c.add_slots.new.sources.items in
    let n = length-map p.rows.items row_of in
    each_step t c.requires sources
    (λ s lt. c.add_slots.ensures.stay _ s (c.add_defaults.ensures.added s (omega (arith, lt, n))))
    c.add_slots.ensures.added s b (omega (arith, h, n)) k
