use Rattle.std.proofs.Common.{◌≤◌, length, ap, arith, ◌∙◌, ◌++◌, take}
use Rattle.lexscan_window.proofs.Showing.{shown_after}
use Rattle.lexscan_window.proofs.window.Window.accept.Goals as goal

pub returns : goal.returns
returns c =
    let few : c.args.count ≤ length c.args.self.now.ahead = c.requires in
    shown_after c.self.inside.start c.self.inside.end c.self.inside.shown c.args.count c.self.inside.buffer.items c.self.invariant.0 (omega (arith, c.self.invariant.1, c.self.inside.buffer.ok)) (omega (arith, few, ap (λ v. length v.ahead) c.self.view_is))
    ∙ ap (λ v. v.bytes ++ take c.args.count v.ahead) c.self.view_is
