use Rattle.std.proofs.Common.{◌≤◌, length, ap, arith, ◌∙◌, ◌++◌, ◌+◌, ◌-◌, take, drop}
use Rattle.lexscan_window.proofs.Showing.{shown_slice}
use Rattle.lexscan_window.proofs.window.Window.text.Goals as goal

pub returns : goal.returns
returns c =
    let few : c.args.count ≤ length c.args.self.now.ahead = c.requires in
    ap (λ l. take (c.self.inside.end + c.args.count - c.self.inside.start) (drop c.self.inside.start l)) c.deref.ensures.value
    ∙ shown_slice c.self.inside.start c.self.inside.end c.self.inside.shown c.args.count c.self.inside.buffer.items c.self.invariant.0 (omega (arith, c.self.invariant.1, c.self.inside.buffer.ok)) (omega (arith, few, ap (λ v. length v.ahead) c.self.view_is))
    ∙ ap (λ v. v.bytes ++ take c.args.count v.ahead) c.self.view_is
