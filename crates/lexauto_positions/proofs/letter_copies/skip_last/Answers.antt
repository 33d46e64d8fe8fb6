use Rattle.std.proofs.Common.{arith}
use Rattle.std.proofs.lemmas.Grind.{common_steps}
use Rattle.lexauto_positions.proofs.CursorLaws.{cursor_at}
use Rattle.lexauto_positions.proofs.letter_copies.skip_last.Goals as goal

pub returns : goal.returns
returns c = cursor_at c.args.last.now c.loop-cursor.cursor c.args.end c.requires.cursor.increases c.loop-cursor.invariant.within c.loop-cursor.invariant.below (c.is_quiet.ensures.yes c.loop-cursor-test.false)

pub loop-cursor-smaller : goal.loop-cursor-smaller
loop-cursor-smaller = grind (arith, common_steps)
