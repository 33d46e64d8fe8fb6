use Rattle.std.proofs.Common.{◌≤◌, ◌^◌, arith}
use Rattle.std.proofs.Math.Pow.{pow_mono}
use Rattle.lexre_bytes.proofs.words.ones_between.Goals as goal

pub overflow_sub-result : goal.overflow_sub-result
overflow_sub-result c = let more : 2 ^ c.args.from ≤ 2 ^ c.args.to = pow_mono c.requires.order in omega (arith, more)
