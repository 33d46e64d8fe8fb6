use Rattle.std.proofs.Common.{arith}
use Rattle.lexlook_letters.proofs.Boxes.{one_words, lead_sound}
use Rattle.lexlook_letters.proofs.sequence.one.Goals as goal

pub returns-clause-words : goal.returns-clause-words
returns-clause-words c = one_words c.args.first c.args.last _ c.requires.last c.byte_range.ensures

pub returns-clause-sound : goal.returns-clause-sound
returns-clause-sound c = (lead_sound c.args.first c.args.last _ c.requires.order (omega arith) c.byte_range.ensures, tt)
