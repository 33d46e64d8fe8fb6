use Rattle.std.proofs.Common.{sym, ◌∙◌}
use Rattle.lexscan_matching.proofs.Planning as Plan
use Rattle.lexscan_matching.proofs.plan.plan_of.Goals as goal

pub returns-then-way-gt1-2 : goal.returns-then-way-gt1-2
returns-then-way-gt1-2 g c =
    let M = g.M.Machine.machine c.args.machine.now in
    Plan.plan_shorter M c.args.way c.plan_at-then-way-gt1-2.result c.if-way-gt1-2.true (sym c.accepts.ensures ∙ Plan.none_there c.accepts.result.now (sym c.is_empty.ensures ∙ c.if-not-is_empty.false)) c.plan_at-then-way-gt1-2.ensures
