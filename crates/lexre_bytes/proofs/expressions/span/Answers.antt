use Rattle.std.proofs.Common.{arith}
use Rattle.lexre_bytes.proofs.MemberLaws.{range_some}
use Rattle.lexre_bytes.proofs.expressions.span.Goals as goal

pub returns-clause-some : goal.returns-clause-some
returns-clause-some c = rw c.range.ensures (range_some c.args.low c.args.high c.requires (omega arith))
