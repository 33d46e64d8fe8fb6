use Rattle.std.proofs.Common.{◌-◌, ap, subst, sym, ◌∙◌, arith}
use Rattle.std.specs.Prelude.{filter_map}
use Rattle.lex_semantics.specs.PlainMachine.{match_of}
use Rattle.lexscan_matching.specs.Picks.{IsFirst}
use Rattle.lexscan_matching.proofs.Planning as Plan
use Rattle.lexscan_matching.proofs.plan.next_match.Goals as goal

pub returns-in-Some-clause-follows : goal.returns-in-Some-clause-follows
returns-in-Some-clause-follows g c = Plan.follows_second (g.M.Machine.machine c.args.machine.now) c.args.len c.args.before c.args.second c.in-Some.pick c.in-Some.is

pub returns-clause-follows : goal.returns-clause-follows
returns-clause-follows g c =
    let M = g.M.Machine.machine c.args.machine.now in
    Plan.follows_below M c.args.len c.in_ok-state.state c.args.before c.args.second c.first_candidate.result c.in_default.is c.in_ok-state.was
    (subst (λ l. IsFirst (filter_map (match_of M (c.args.len - 1)) l) c.first_candidate.result) c.accepts.ensures c.first_candidate.ensures.first)

pub returns-clause-known : goal.returns-clause-known
returns-clause-known g c =
    let M = g.M.Machine.machine c.args.machine.now in
    let e = c.first_candidate.ensures in
    let before = rw c.in_ok-state.was at c.requires.known_before in
    let two = before.1 in
    Plan.known_by M (c.args.len - 1) c.args.len c.accepts.result.now c.first_candidate.result (omega (arith, two)) (omega arith) e.first e.known e.statements e.short
