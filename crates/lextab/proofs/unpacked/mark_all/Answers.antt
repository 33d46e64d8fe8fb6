use Rattle.std.proofs.Common.{◌+◌, ◌*◌, ◌-◌, take, drop}
use Rattle.lexauto_dfa.proofs.Leads.{block_at}
use Rattle.lextab.proofs.RowByRow.{one_state_more}
use Rattle.lextab.proofs.unpacked.mark_all.Goals as goal

pub loop-state-preserved : goal.loop-state-preserved
loop-state-preserved c =
    let next = c.args.next.now in
    let s = c.loop-state.state in
    record {
      len = c.mark_changes.ensures.len;
      tell = one_state_more next s (take (256 * s + 256 - 256 * s) (drop (256 * s) next)) c.loop-state.changes c.mark_changes.new.changes c.loop-state.invariant.tell
          (block_at next (256 * s)) c.mark_changes.ensures.before c.mark_changes.ensures.here;
    }
