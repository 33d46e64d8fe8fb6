use Rattle.std.proofs.Common.{false, arith}
use Rattle.std.proofs.lemmas.List.{get_or_read}
use Rattle.lex_semantics.specs.Text.{flag}
use Rattle.lexlook_suites.specs.Edges.{rule_at}
use Rattle.lexlook_suites.proofs.Edged.{map_more, one_part}
use Rattle.lexlook_suites.proofs.edges.state_parts.Goals as goal

pub loop-state-preserved : goal.loop-state-preserved
loop-state-preserved c =
    let p = c.args.dfa.now.parts in
    let m = c.args.marks.now in
    let s = c.loop-state.state in
    let low = c.loop-state-test.true in
    let states = c.len-state-end.ensures.states in
    let size = c.requires.size.states in
    map_more (λ q. record { rule = rule_at p c.args.rules q; walked = flag m.states.items q }) 1 s c.loop-state.parts.items _ c.loop-state.auto.state c.loop-state.invariant
    (one_part _ _ _ _ c.loop-state.parts.items _ c.rule_at.ensures (get_or_read m.states.items s _ (omega (arith, low, states, size)) c.index.ensures false) c.in_ok-push.ensures.items)
