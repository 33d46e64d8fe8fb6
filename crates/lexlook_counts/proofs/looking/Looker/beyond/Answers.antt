use Rattle.std.proofs.Common.{arith, drop, subst, sym}
use Rattle.lex_semantics.specs.Text.{at_line_start}
use Rattle.lextab_packed.specs.FlatViews.{tables_of}
use Rattle.lextab_packed.specs.Machines.{laws_of}
use Rattle.lexlook_counts.specs.Looking.{Looks, looker_machine}
use Rattle.lexlook_counts.proofs.Costing.{is_cost}
use Rattle.lexlook_counts.proofs.looking.Looker.beyond.Goals as goal

pub returns-clause-looks : goal.returns-clause-looks
returns-clause-looks c given at x t holds goes condition end is =
    let M = looker_machine c.args.self.now in
    let look = c.in-Some.ensures.looks given at holds in
    is_cost M (laws_of (tables_of c.args.self.now.machine)) given x at c.args.finished c.in-Some.look t goes look.0
    (subst (λ n. Looks M (M.start n (at_line_start given at)) (drop at given) c.in-Some.look) (sym condition) look.1)
    (c.is_all_there.ensures c.if-not-is_all_there.false)
    (omega (arith, is, end, holds.here, c.saturating_sub-text.ensures, c.saturating_sub.ensures))
