use Rattle.std.proofs.Common.{arith}
use Rattle.std.proofs.lemmas.Grind.{common_steps}
use Rattle.std.proofs.lemmas.List.{length-map}
use Rattle.lextab_packed.specs.Views.{condition_of}
use Rattle.lextab_packed.specs.Machines.{table_machine}
use Rattle.lexlook_tables.proofs.Scanning.{scan_alike}
use Rattle.lexlook_tables.proofs.same.tables.compare.Goals as goal

pub returns-in-None-2 : goal.returns-in-None-2
returns-in-None-2 c =
    let l = length-map c.args.left.now.parts.conditions.items condition_of in
    let r = length-map c.args.right.now.parts.conditions.items condition_of in
    let same = c.in_ok-tell_apart-in-None.ensures.same c.in-None-2.is in
    record {
      conditions = grind (arith, common_steps, l, r, c.if-conditions-len.false, c.len-conditions.ensures, c.len.ensures, c.parts.ensures, c.parts-2.ensures);
      ends = c.in-None.ensures;
      same = same;
      scan = scan_alike c.args.order.now (table_machine c.args.left.now) (table_machine c.args.right.now) c.args.left.now.laws c.args.right.now.laws same c.in-None.ensures;
    }
