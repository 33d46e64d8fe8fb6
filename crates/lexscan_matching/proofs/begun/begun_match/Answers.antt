use Rattle.std.proofs.Common.{sym, ◌∙◌}
use Rattle.lexscan_matching.proofs.Beginning.{begins_before}
use Rattle.lexscan_matching.proofs.Planning.{none_there}
use Rattle.lexscan_matching.proofs.begun.begun_match.Goals as goal

pub returns-then-way-gt1 : goal.returns-then-way-gt1
returns-then-way-gt1 g c =
    let M = g.M.Machine.machine c.args.machine.now in
    begins_before M c.args.way c.begun_at-then-way-gt1.result c.if-way-gt1.true (sym c.accepts.ensures ∙ none_there c.accepts.result.now (sym c.is_empty.ensures ∙ c.if-not-is_empty.false)) c.begun_at-then-way-gt1.ensures
