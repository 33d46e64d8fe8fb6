use Rattle.std.proofs.Common.{◌<◌, false, length, refl, sym, ◌∙◌, arith}
use Rattle.std.proofs.lemmas.List.{get_or_read_under}
use Rattle.lextab_packed.specs.Machines.{table_machine}
use Rattle.lextab_packed.proofs.Lengthening.{told_more}
use Rattle.lextab_packed.proofs.flat.FlatMachine.does_more.Goals as goal

pub returns : goal.returns
returns c = λ is.
    let self = c.args.self.now in
    let known : c.args.state < length self.mores.items = omega (arith, c.requires, self.more_column) in
    let flagged = get_or_read_under self.mores.items c.args.state (length self.mores.items) c.index.result.now false c.index.ensures known refl in
    told_more (table_machine self.tables) c.args.state (self.more_told c.args.state (sym flagged ∙ is))
