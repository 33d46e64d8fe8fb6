use Rattle.std.proofs.Common.{arith}
use Rattle.lexspec_lines.proofs.TextLaws.{comment_is}
use Rattle.lexspec_lines.proofs.skipping.skip_comment.Goals as goal

pub loop-first-init : goal.loop-first-init
loop-first-init c = record { same = comment_is c.args.text.now; shorter = omega arith }
