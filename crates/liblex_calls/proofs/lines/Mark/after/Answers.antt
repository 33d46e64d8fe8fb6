use Rattle.liblex_calls.proofs.Lining.{after_other}
use Rattle.liblex_calls.proofs.lines.Mark.after.Goals as goal

pub returns-else-byte-eq10 : goal.returns-else-byte-eq10
returns-else-byte-eq10 c before h few = after_other before c.args.self c.args.byte h few c.if-byte-eq10.false
