use Rattle.std.proofs.Common.{◌≤◌, ◌++◌, length, take, ap, ◌∙◌, arith}
use Rattle.lexscan_window.proofs.Keeping.{fits_in, behind_more}
use Rattle.lexscan_window.proofs.window.Window.drop_front.Goals as goal

pub returns-clause-behind : goal.returns-clause-behind
returns-clause-behind c =
    let inside : c.self.inside.end ≤ length c.self.inside.buffer.items = omega (arith, c.self.invariant.1, c.self.inside.buffer.ok) in
    let few : c.args.n ≤ length c.args.self.now.bytes = c.requires in
    behind_more c.self.inside.start c.self.inside.end c.args.n c.self.inside.buffer.items
    (fits_in c.self.inside.start c.self.inside.end c.args.n c.self.inside.buffer.items c.self.invariant.0 inside (omega (arith, few, ap (λ v. length v.bytes) c.self.view_is)))
    ∙ ap (λ v. v.behind ++ take c.args.n v.bytes) c.self.view_is
