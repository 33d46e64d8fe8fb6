use Rattle.std.proofs.Common.{rules, ◌<◌, ◌+◌, ◌*◌, ◌-◌, length, slice_index, take, drop, arith}
use Rattle.lexauto_dfa.proofs.Leads.{block_at}
use Rattle.lextab.specs.Searching.{by_head}
use Rattle.lextab.proofs.Fills.{one_more_filled}
use Rattle.lextab.proofs.filling.fill_all.Goals as goal

pub loop-state-preserved : goal.loop-state-preserved
loop-state-preserved c =
    let next = c.args.next.now in
    let heads = c.args.heads.now in
    let s = c.loop-state.state in
    let low : s < length c.args.bases.now = search rules in
    one_more_filled (by_head next heads) (length heads) c.args.defaults.now c.args.bases.now s
    (λ k. slice_index (take (256 * s + 256 - 256 * s) (drop (256 * s) next)) (slice_index heads k))
    c.loop-state.check c.loop-state.targets c.fill.new.check c.fill.new.targets
    c.loop-state.invariant (c.requires.placed s low) (λ k h. block_at next (256 * s) (slice_index heads k) (let t = c.type_inv.heads k in omega arith)) c.fill.ensures (search rules)
