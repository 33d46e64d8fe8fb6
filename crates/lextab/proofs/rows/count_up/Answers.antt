use Rattle.std.proofs.Common.{rules, ◌<◌, length, slice_index, arith}
use Rattle.lextab.proofs.Counts.{often_le}
use Rattle.lextab.proofs.rows.count_up.Goals as goal

pub overflow_add-counts : goal.overflow_add-counts
overflow_add-counts c =
    let k = c.loop-target.target-index in
    let t = slice_index c.args.row.now k in
    let low : k < length c.args.row.now = search rules in
    let few = c.requires.few in
    omega (arith, c.loop-target.invariant t, often_le (slice_index c.args.row.now) k t)
