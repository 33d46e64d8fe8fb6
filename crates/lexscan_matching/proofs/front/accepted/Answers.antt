use Rattle.std.proofs.Common.{subst, get_or}
use Rattle.lex_semantics.specs.Text.{Among}
use Rattle.lexscan_matching.proofs.Descending.{among_get}
use Rattle.lexscan_matching.proofs.front.accepted.Goals as goal

pub returns-clause-known : goal.returns-clause-known
returns-clause-known g c i lt =
    let rules = c.accepts.result.now in
    (g.M.Machine.laws c.args.machine.now).in_range c.args.state (get_or rules i 0) (subst (λ l. Among l (get_or rules i 0)) c.accepts.ensures (among_get rules i lt))
