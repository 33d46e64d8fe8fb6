use Rattle.std.proofs.Common.{◌+◌, arith, sym}
use Rattle.lexauto_positions.proofs.CursorLaws.{none_before}
use Rattle.lexauto_positions.proofs.walk.leave_letter.Goals as goal

pub returns-then-is_quiet-clause-left : goal.returns-then-is_quiet-clause-left
returns-then-is_quiet-clause-left c =
    sym (none_before c.args.last.now c.args.at c.args.base c.requires.cursor (c.args.base + 1) (omega arith) (c.is_quiet.ensures.yes c.if-is_quiet.true) c.args.base (omega arith) (omega arith))
