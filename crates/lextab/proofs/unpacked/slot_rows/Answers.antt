use Rattle.std.proofs.Common.{rules, ◌≡◌, List, ℕ, length, ap, ◌∙◌, slice_index}
use Rattle.lextab.specs.Searching.{by_head}
use Rattle.lextab.proofs.RowByRow.{one_row_more, resized}
use Rattle.lextab.proofs.unpacked.slot_rows.Goals as goal

pub loop-state-preserved : goal.loop-state-preserved
loop-state-preserved c =
    let to = by_head c.args.next.now c.args.heads.now in
    let count = length c.args.heads.now in
    let s = c.loop-state.state in
    let row = c.deref.result.now in
    let is : row ≡ c.read_short_row.new.row.items = c.deref.ensures.value in
    let old = c.loop-state.check.items in
    let len : c.len-in-loop-state.result ≡ length old = search rules in
    let base : c.len.result ≡ length old = search rules in
    record {
      row = c.read_short_row.ensures.len;
      laid = one_row_more to count s c.len.result c.loop-state.bases.items old c.loop-state.targets.items row c.push.new.self.items c.resize.new.self.items c.extend_from_slice.new.self.items
          c.loop-state.invariant.laid (ap length is ∙ c.read_short_row.ensures.len) (λ k h. ap (λ (l : List ℕ). slice_index l k) is ∙ c.read_short_row.ensures.each k h) base
          c.in_ok-push.ensures.items (resized old c.resize.new.self.items c.loop-state.check.len c.len-in-loop-state.result count s len (search rules) c.in_ok-resize.ensures.items) c.in_ok-extend_from_slice.ensures.items;
    }
