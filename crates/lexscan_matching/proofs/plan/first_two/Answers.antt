use Rattle.std.proofs.Common.{refl, sym, ap, subst, ◌∙◌, drop, get_or, inr, arith}
use Rattle.std.specs.Prelude.{filter_map}
use Rattle.std.proofs.lemmas.List.{take_rest, drop_more}
use Rattle.lex_semantics.specs.PlainMachine.{match_of}
use Rattle.lex_semantics.specs.Text.{Among}
use Rattle.lexscan_matching.specs.Picks.{IsFirst}
use Rattle.lexscan_matching.proofs.Descending as Down
use Rattle.lexscan_matching.proofs.Planning as Plan
use Rattle.lexscan_matching.proofs.plan.first_two.Goals as goal

pub match_by-requires-clause-known : goal.match_by-requires-clause-known
match_by-requires-clause-known g c =
    let r = c.accepts-rules.result.now in
    (g.M.Machine.laws c.args.machine.now).in_range c.args.state (get_or r 0 0) (subst (λ l. Among l (get_or r 0 0)) c.accepts-rules.ensures (Down.among_get r 0 (Plan.some_there r (sym c.is_empty.ensures ∙ c.if-is_empty.false))))

pub first_candidate-second-requires : goal.first_candidate-second-requires
first_candidate-second-requires g c =
    let r = c.accepts-rules.result.now in
    record {
      known = λ i among.
          (g.M.Machine.laws c.args.machine.now).in_range c.args.state i
          (subst (λ l. Among l i) c.accepts-rules.ensures
          (subst (λ l. Among l i) (sym (drop_more r 0 0 (Plan.some_there r (sym c.is_empty.ensures ∙ c.if-is_empty.false)))) (inr (subst (λ l. Among l i) (take_rest r 1) among))));
    }

pub returns : goal.returns
returns g c =
    let M = g.M.Machine.machine c.args.machine.now in
    let r = c.accepts-rules.result.now in
    let e = c.first_candidate-second.ensures in
    Plan.two_first M c.args.state c.args.len r _ c.accepts-rules.ensures (Plan.some_there r (sym c.is_empty.ensures ∙ c.if-is_empty.false)) c.in_ok-first.ensures.rule c.in_ok-first.ensures.keep c.in_ok-first.ensures.known c.requires.some
    (subst (λ l. IsFirst (filter_map (match_of M c.args.len) l) c.first_candidate-second.result) (take_rest r 1) e.first) e.known e.statements e.short
