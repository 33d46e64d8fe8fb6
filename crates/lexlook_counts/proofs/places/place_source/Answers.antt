use Rattle.std.proofs.Common.{ℕ, Ok, Option, arith, subst}
use Rattle.lextab_packed.specs.FlatViews.{tables_of}
use Rattle.lextab_packed.specs.Machines.{table_machine}
use Rattle.lexlook_counts.specs.Places.{PlacesOn}
use Rattle.lexlook_counts.specs.declared.places.Placer.{Placer}
use Rattle.lexlook_counts.proofs.Fed.{few_ends, fresh, has_told}
use Rattle.lexlook_counts.proofs.Placing.{memory_stops, placed_none}
use Rattle.lexlook_counts.proofs.places.place_source.Goals as goal

pub steps-init : goal.steps-init
steps-init g c =
    let M = table_machine (tables_of c.args.machine) in
    let p : Placer = record { reader = c.new.result; line = c.new-2.result; fed = c.new-3.result } in
    placed_none g.S.Source.gave g.S.Source.ends g.S.Source.failures g.K.Sink.wrote g.K.Sink.failures M c.args.lines.now c.args.source.now c.args.source.now c.args.sink.now c.args.sink.now p
    (fresh g.S.Source.gave g.S.Source.ends g.S.Source.failures M c.args.source.now c.new.result (g.met.S.Source.gave_none c.args.source.now) c.new.ensures) (g.met.K.Sink.wrote_none c.args.sink.now)

pub step-requires-clause-told : goal.step-requires-clause-told
step-requires-clause-told g c =
    let h = c.steps.invariant in
    has_told g.S.Source.gave g.S.Source.ends g.S.Source.failures (table_machine (tables_of c.args.machine)) c.args.source.now c.steps.source h.given h.tokens c.steps.scan.reader h.read

pub step-requires-clause-ends : goal.step-requires-clause-ends
step-requires-clause-ends g c =
    let h = c.steps.invariant in
    few_ends g.S.Source.gave g.S.Source.ends g.S.Source.failures (table_machine (tables_of c.args.machine)) c.args.source.now c.steps.source h.given h.tokens c.steps.scan.reader h.read c.requires.ends

pub step-requires-clause-reads : goal.step-requires-clause-reads
step-requires-clause-reads g c = omega (arith, c.steps.invariant.read.reads, c.requires.reads)

pub step-requires-clause-writes : goal.step-requires-clause-writes
step-requires-clause-writes g c = omega (arith, c.steps.invariant.writes, c.requires.writes)

pub returns-in-Ok-Some : goal.returns-in-Ok-Some
returns-in-Ok-Some g c =
    let M = table_machine (tables_of c.args.machine) in
    subst (λ (o : Option ℕ). PlacesOn g.S.Source.gave g.S.Source.ends g.S.Source.failures g.K.Sink.wrote g.K.Sink.failures M c.args.lines.now c.args.source.now c.step.new.source c.args.sink.now c.step.new.sink c.step.new.self (Ok o)) c.in-Ok-Some.field-0-is
    (c.in-Ok-Some.ensures M c.args.source.now c.args.sink.now c.steps.invariant)

pub returns-in-Err : goal.returns-in-Err
returns-in-Err g c = c.in-Err.ensures (table_machine (tables_of c.args.machine)) c.args.source.now c.args.sink.now c.steps.invariant

pub steps-preserved : goal.steps-preserved
steps-preserved g c =
    let M = table_machine (tables_of c.args.machine) in
    subst (λ (o : Option ℕ). PlacesOn g.S.Source.gave g.S.Source.ends g.S.Source.failures g.K.Sink.wrote g.K.Sink.failures M c.args.lines.now c.args.source.now c.step.new.source c.args.sink.now c.step.new.sink c.step.new.self (Ok o)) c.in-Ok-None.field-0-is
    (c.in-Ok-None.ensures M c.args.source.now c.args.sink.now c.steps.invariant)

pub returns : goal.returns
returns g c =
    memory_stops g.S.Source.gave g.S.Source.ends g.S.Source.failures g.K.Sink.wrote g.K.Sink.failures (table_machine (tables_of c.args.machine)) c.args.lines.now c.args.source.now c.steps.source c.args.sink.now c.steps.sink c.steps.scan c.steps.invariant
