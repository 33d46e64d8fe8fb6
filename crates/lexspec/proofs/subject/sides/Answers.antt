use Rattle.std.proofs.Common.{rules}
use Rattle.lexspec.proofs.SubjectLaws.{sides_slash}
use Rattle.lexspec.proofs.subject.sides.Goals as goal

pub returns-in-Some-2 : goal.returns-in-Some-2
returns-in-Some-2 c =
    rw (c.in-Some-2.is, c.if-cutting-2.false)
    (sides_slash c.args.text.now _ _ _ _ c.args.cutting.end c.in-Some-2.at _ c.first_bytes-in-Some-2.ensures c.without_bytes.ensures c.skip_first-after.ensures (search rules) c.first_bytes-in-Some-2-2.ensures)
