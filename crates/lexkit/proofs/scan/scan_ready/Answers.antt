use Rattle.lextab_packed.specs.FlatViews.{tables_of}
use Rattle.lextab_packed.specs.Machines.{laws_of}
use Rattle.lexkit.proofs.Carried.{came_to, stopped_at}
use Rattle.lexkit.proofs.scan.scan_ready.Goals as goal

pub returns-in-Err-clause-told : goal.returns-in-Err-clause-told
returns-in-Err-clause-told g c options text (S, spells, made) =
    let h = c.in-Err.ensures.ran in
    let told = stopped_at g.S.Source.gave g.K.Sink.wrote c.args.source.now c.run_table.new.source c.args.sink.now c.run_table.new.sink (g.S.Source.ends c.args.source.now) (g.S.Source.ends c.run_table.new.source) (g.S.Source.failures c.args.source.now) (g.S.Source.failures c.run_table.new.source) options.limits S made.sound made.within
    _ (laws_of (tables_of c.args.machine.now)) made.table h.0 h.1 h.2 h.3 h.5 _ h.4 in
    (S, spells, told.0, told.1)

pub returns-in-Ok-clause-told : goal.returns-in-Ok-clause-told
returns-in-Ok-clause-told g c options text (S, spells, made) =
    let h = c.in-Ok.ensures.ran in
    let told = came_to g.S.Source.gave g.K.Sink.wrote c.args.source.now c.run_table.new.source c.args.sink.now c.run_table.new.sink (g.S.Source.ends c.args.source.now) (g.S.Source.ends c.run_table.new.source) (g.S.Source.failures c.args.source.now) (g.S.Source.failures c.run_table.new.source) options.limits S made.sound made.within
    _ (laws_of (tables_of c.args.machine.now)) made.table h.0 h.1 h.2 h.3 h.5 _ h.4 in
    (S, spells, told.0, told.1)
