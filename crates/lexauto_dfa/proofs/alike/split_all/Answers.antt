use Rattle.std.proofs.Common.{rules, ◌<◌, ◌+◌, ◌*◌, ◌-◌, take, drop, arith}
use Rattle.lexauto_dfa.specs.Alike.{moves}
use Rattle.lexauto_dfa.proofs.Leads.{lead_heads, more_leads, still_alone, block_at}
use Rattle.lexauto_dfa.proofs.alike.split_all.Goals as goal

pub split-requires-clause-heads : goal.split-requires-clause-heads
split-requires-clause-heads c = lead_heads c.loop-state.state (moves c.args.next.now) c.loop-state.lead c.loop-state.invariant

pub returns-then-are_alone : goal.returns-then-are_alone
returns-then-are_alone c =
    let low : c.loop-state.state < c.args.states = search rules in
    still_alone (c.loop-state.state + 1) c.args.states (moves c.args.next.now) c.split.new.lead (omega (arith, low))
    (more_leads c.loop-state.state (moves c.args.next.now) c.loop-state.lead (take (256 * c.loop-state.state + 256 - 256 * c.loop-state.state) (drop (256 * c.loop-state.state) c.args.next.now)) c.split.new.lead c.loop-state.invariant
    (block_at c.args.next.now (256 * c.loop-state.state)) c.split.ensures)
    (c.are_alone.ensures c.if-are_alone.true)

pub loop-state-preserved : goal.loop-state-preserved
loop-state-preserved c = more_leads c.loop-state.state (moves c.args.next.now) c.loop-state.lead (take (256 * c.loop-state.state + 256 - 256 * c.loop-state.state) (drop (256 * c.loop-state.state) c.args.next.now)) c.split.new.lead c.loop-state.invariant
    (block_at c.args.next.now (256 * c.loop-state.state)) c.split.ensures
