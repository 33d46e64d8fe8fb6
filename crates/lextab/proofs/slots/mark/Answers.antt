use Rattle.std.proofs.Common.{rules, ◌≡◌, ◌+◌, ◌<◌, length, slice_index, arith, refl}
use Rattle.lextab.proofs.Marks.{one_more_marked}
use Rattle.lextab.proofs.slots.mark.Goals as goal

pub loop-k-preserved : goal.loop-k-preserved
loop-k-preserved c =
    let k = c.loop-k.k-index in
    let low : k < length c.args.entries.now = search rules in
    let within = c.requires.within k low in
    let same : length c.loop-k.words ≡ length c.args.words.now = c.loop-k.auto.words in
    one_more_marked c.args.words.now c.args.entries.now c.loop-k.words c.args.base k (c.args.base + slice_index c.args.entries.now k) c.loop-k.invariant refl (omega arith)
