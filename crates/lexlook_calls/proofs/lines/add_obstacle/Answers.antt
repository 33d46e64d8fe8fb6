use Rattle.std.proofs.Common.{◌≡◌, ◌++◌, OnOk, sym, subst}
use Rattle.lextab_packed.specs.Machines.{table_machine}
use Rattle.lexlook_calls.specs.Cuts.{obstacle_line}
use Rattle.lexlook_calls.specs.Sides.{read_as}
use Rattle.lexlook_calls.proofs.lines.add_obstacle.Goals as goal

pub returns-in-Copies : goal.returns-in-Copies
returns-in-Copies c = subst (λ o. OnOk c.add_copies.result (c.add_copies.new.text.items ≡ c.args.text.now.items ++ obstacle_line (table_machine c.args.side.now.tables) (read_as c.args.side.now.spec) o)) (sym c.in-Copies.is) c.add_copies.ensures

pub returns-in-Writes : goal.returns-in-Writes
returns-in-Writes c = subst (λ o. OnOk c.add-in-Writes.result (c.add-in-Writes.new.text.items ≡ c.args.text.now.items ++ obstacle_line (table_machine c.args.side.now.tables) (read_as c.args.side.now.spec) o)) (sym c.in-Writes.is) c.add-in-Writes.ensures
