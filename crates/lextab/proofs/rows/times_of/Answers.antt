use Rattle.std.proofs.Common.{rules, ◌<◌, length, slice_index, arith}
use Rattle.lextab.proofs.Counts.{often_le}
use Rattle.lextab.proofs.rows.times_of.Goals as goal

pub overflow_add-times : goal.overflow_add-times
overflow_add-times c =
    let k = c.loop-other.other-index in
    let low : k < length c.args.row.now = search rules in
    let few = c.requires in
    let times = c.loop-other.invariant.times in
    omega (arith, times, few, low, often_le (slice_index c.args.row.now) k c.args.target)
