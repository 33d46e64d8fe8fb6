use Rattle.std.proofs.Common.{◌<◌, length, get_or, ap, ◌∙◌, arith}
use Rattle.std.proofs.lemmas.Bool.Decides.{nat_tests}
use Rattle.lextab_packed.specs.Machines.{table_machine}
use Rattle.lextab_packed.proofs.Beginning.{told_at}
use Rattle.lextab_packed.proofs.flat.FlatMachine.begins_more.Goals as goal

pub returns-in-Some : goal.returns-in-Some
returns-in-Some c =
    let self = c.args.self.now in
    let there = c.in-Some.ensures.lookup in
    let same = c.deref.ensures.value in
    let inside : c.args.state < length c.deref.result.now = grind (arith, nat_tests) in
    told_at (table_machine self.tables) self.begun.items c.args.state c.in-Some.begun.now self.begun_told
    (there.1 ∙ ap (λ l. get_or l c.args.state c.in-Some.begun.now) same) (omega (arith, inside, ap length same))
