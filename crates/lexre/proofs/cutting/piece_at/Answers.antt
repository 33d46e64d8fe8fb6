use Rattle.std.proofs.Common.{arith, length-drop}
use Rattle.lexre_bytes.proofs.PassingLaws.{quotes_shorter}
use Rattle.lexre_bytes.proofs.QuoteLaws.{escape_shorter}
use Rattle.lexre.proofs.cutting.piece_at.Goals as goal

pub returns-in-Ok-clause-shorter : goal.returns-in-Ok-clause-shorter
returns-in-Ok-clause-shorter c = omega (arith, quotes_shorter _ _ c.in-Ok.ensures.found, length-drop 1 c.args.text.now)

pub returns-in-Some-escape_at-clause-shorter : goal.returns-in-Some-escape_at-clause-shorter
returns-in-Some-escape_at-clause-shorter c = omega (arith, c.in-Some.ensures.cases.1, escape_shorter _ _ _ c.in-Some-escape_at.ensures)
