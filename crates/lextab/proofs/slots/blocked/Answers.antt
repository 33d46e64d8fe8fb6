use Rattle.std.proofs.Common.{rules, ℕ, ◌*◌, ◌-◌, ◌<◌, length, slice_index, arith}
use Rattle.lextab.proofs.Bits.{more_hits, earlier_misses, no_zero, of_class}
use Rattle.lextab.proofs.slots.blocked.Goals as goal

pub returns-then-bad-clause-taken : goal.returns-then-bad-clause-taken
returns-then-bad-clause-taken c =
    let n : ℕ = length c.args.entries.now - 1 - c.loop-i.i in
    let low : n < length c.args.entries.now = (let l : c.loop-i.i < length c.args.entries.now = search rules in omega arith) in
    more_hits c.args.words.now c.args.entries.now (64 * c.args.w) c.loop-i.bad c.bits-bad.result n low c.loop-i.invariant.taken
    (of_class c.args.words.now c.args.w (slice_index c.args.entries.now n) c.bits-bad.result c.bits-bad.ensures)

pub returns-then-bad-clause-free : goal.returns-then-bad-clause-free
returns-then-bad-clause-free c = λ j h z. absurd (no_zero _ j c.if-bad.true h z)

pub loop-i-preserved : goal.loop-i-preserved
loop-i-preserved c =
    let n : ℕ = length c.args.entries.now - 1 - c.loop-i.i in
    let here : c.loop-i.i < length c.args.entries.now = search rules in
    let low : n < length c.args.entries.now = omega arith in
    let is = of_class c.args.words.now c.args.w (slice_index c.args.entries.now n) c.bits-bad.result c.bits-bad.ensures in
    record {
      taken = more_hits c.args.words.now c.args.entries.now (64 * c.args.w) c.loop-i.bad c.bits-bad.result n low c.loop-i.invariant.taken is;
      free = λ j h z m g l. earlier_misses c.args.words.now c.args.entries.now (64 * c.args.w) c.loop-i.bad c.bits-bad.result n
          (λ j h z m g l. c.loop-i.invariant.free j h z m (omega arith) l) is j h z m (omega arith) l;
    }
