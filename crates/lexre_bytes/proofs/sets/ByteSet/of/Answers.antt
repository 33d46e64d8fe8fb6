use Rattle.std.proofs.Common.{◌-◌, ◌<◌, arith}
use Rattle.lexre_bytes.proofs.SetLaws.{one_shifted, single_low, single_high}
use Rattle.lexre_bytes.proofs.sets.ByteSet.of.Goals as goal

pub returns-then-byte-lt128 : goal.returns-then-byte-lt128
returns-then-byte-lt128 c =
    let small = c.if-byte-lt128.true in
    rw (one_shifted c.args.byte small) (single_low c.args.byte small)

pub returns-else-byte-lt128 : goal.returns-else-byte-lt128
returns-else-byte-lt128 c =
    let large = c.if-byte-lt128.false in
    let fits : c.args.byte < 256 = omega arith in
    rw (one_shifted (c.args.byte - 128) (omega arith)) (single_high c.args.byte large fits)
