use Rattle.std.proofs.Common.{◌<◌, length, get_or, refl, arith}
use Rattle.lex_machine.specs.Singles.{IsDropped}
use Rattle.lextab_packed.specs.declared.tables.Tables.{Tables}
use Rattle.lextab_packed.specs.Machines.{table_machine}
use Rattle.lextab_packed.proofs.Singling.{one_more, dropped_by}
use Rattle.lextab_packed.proofs.flat.Flat.dropped_singly.Goals as goal

pub run-preserved : goal.run-preserved
run-preserved c =
    let t : Tables = c.args.self.now.tables in
    let lt : c.run.count < length c.args.bytes.now = omega (arith, c.run-test.true) in
    let small : get_or c.args.bytes.now c.run.count 0 < 256 = let f = c.type_inv.bytes c.run.count in omega (arith, f) in
    one_more (IsDropped (table_machine t) c.args.first) c.args.bytes.now c.run.count c.run.invariant lt
    (dropped_by t c.args.first (get_or c.args.bytes.now c.run.count 0) c.target.result c.requires small (c.target.ensures c.args.first refl c.requires) (c.is_dropped.ensures.yes c.if-is_dropped.true))
