use Rattle.std.proofs.Common.{◌≡◌, ◌++◌, sym, subst}
use Rattle.std.specs.Prelude.{OnOk}
use Rattle.lexlook_calls.specs.Lines.{side_as, told_line}
use Rattle.lexlook_calls.proofs.same.telling.add_told.Goals as goal

pub returns-in-Ends : goal.returns-in-Ends
returns-in-Ends c = subst (λ t. OnOk c.add_end.result (c.add_end.new.text.items ≡ c.args.text.now.items ++ told_line (side_as c.args.left.name.now c.args.left.side.now) (side_as c.args.right.name.now c.args.right.side.now) c.args.order.now t)) (sym c.in-Ends.is)
    (c.add_end.ensures c.args.order.now)
