use Rattle.lextab.proofs.Bits.{one_more_full}
use Rattle.lextab.proofs.slots.full_words.Goals as goal

pub loop-w-preserved : goal.loop-w-preserved
loop-w-preserved c = one_more_full c.args.words.now c.loop-w.w c.if-words-w.false c.loop-w.invariant
