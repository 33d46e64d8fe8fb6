use Rattle.std.proofs.Common.{◌≡◌, ◌+◌, ◌*◌, ◌++◌, length, ap, ◌∙◌, arith}
use Rattle.std.specs.Prelude.{slice_index}
use Rattle.std.proofs.lemmas.List.{length-append}
use Rattle.lextab_packed.specs.Steps.{step_of}
use Rattle.lextab_packed.specs.Views.{table_of}
use Rattle.lextab_packed.proofs.Alikes.{one_row_more}
use Rattle.lextab_packed.proofs.rows.marked_rows.Goals as goal

pub loop-state-preserved : goal.loop-state-preserved
loop-state-preserved c =
    let rows = c.loop-state.rows.items in
    let xs = c.turn_to.new.row.by_byte in
    let items : c.extend_from_slice.new.self.items ≡ rows ++ xs = c.in_ok-extend_from_slice.ensures.items in
    let each = one_row_more rows xs c.loop-state.state (λ s b. slice_index c.args.marks.now (step_of (table_of c.args.parts.now) s b)) c.loop-state.invariant.0 c.loop-state.invariant.1 c.turn_to.ensures.each in (
      omega (arith, ap length items, length-append rows xs, c.loop-state.invariant.0, c.in_ok-extend_from_slice.ensures.len),
      λ s b lt byte. ap (λ l. slice_index l (256 * s + b)) items ∙ each s b lt byte,
      c.turn_to.ensures.spread,
    )
