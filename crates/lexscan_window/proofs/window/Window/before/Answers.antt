use Rattle.std.proofs.Common.{◌+◌, ◌-◌, ◌≤◌, ◌++◌, length, take, drop, ap, ◌∙◌, arith}
use Rattle.lexscan_window.specs.Window.{last_of}
use Rattle.lexscan_window.proofs.Keeping.{fits_in, slice_before}
use Rattle.lexscan_window.proofs.window.Window.before.Goals as goal

pub returns : goal.returns
returns c =
    let inside : c.self.inside.end ≤ length c.self.inside.buffer.items = omega (arith, c.self.invariant.1, c.self.inside.buffer.ok) in
    let few : c.args.at ≤ length c.args.self.now.bytes = c.requires in
    ap (λ l. take (c.self.inside.start + c.args.at - c.saturating_sub.result) (drop c.saturating_sub.result l)) c.deref.ensures.value
    ∙ slice_before c.self.inside.start c.self.inside.end c.args.at c.args.count c.saturating_sub.result c.self.inside.buffer.items
    (fits_in c.self.inside.start c.self.inside.end c.args.at c.self.inside.buffer.items c.self.invariant.0 inside (omega (arith, few, ap (λ v. length v.bytes) c.self.view_is))) inside c.saturating_sub.ensures
    ∙ ap (λ v. last_of c.args.count (v.behind ++ take c.args.at v.bytes)) c.self.view_is
