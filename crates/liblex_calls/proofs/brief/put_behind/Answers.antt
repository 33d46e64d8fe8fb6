use Rattle.std.proofs.Common.{◌+◌, ◌-◌, length, ap, arith}
use Rattle.std.proofs.lemmas.Slice.{drop-put_mid}
use Rattle.liblex_calls.proofs.brief.put_behind.Goals as goal

pub returns-clause-rest : goal.returns-clause-rest
returns-clause-rest c =
    let first = c.args.first in
    let last = first + length c.args.tokens.now in
    drop-put_mid first (last - first) c.args.buffer.now c.copy_from_slice.new.self last (omega arith) (omega arith) (omega (arith, ap length c.copy_from_slice.ensures.after))
