use Rattle.std.proofs.Common.{◌+◌, ◌/◌, arith}
use Rattle.lexlook_letters.proofs.Boxes.{three_words, lead_sound, low_sound}
use Rattle.lexlook_letters.proofs.sequence.three.Goals as goal

pub returns-clause-words : goal.returns-clause-words
returns-clause-words c =
    three_words c.args.first c.args.last _ _ _ c.requires.first c.requires.last c.requires.whole c.requires.whole_64
    c.byte_range-lead.ensures c.going_on-second.ensures c.going_on-third.ensures

pub returns-clause-sound : goal.returns-clause-sound
returns-clause-sound c = (
  lead_sound (0xE0 + c.args.first / 64 / 64) (0xE0 + c.args.last / 64 / 64) _ (omega arith) (omega arith) c.byte_range-lead.ensures,
  (
    low_sound (c.args.first / 64) (c.args.last / 64) _ (omega arith) c.requires.whole_64 c.going_on-second.ensures,
    (low_sound c.args.first c.args.last _ c.requires.order c.requires.whole c.going_on-third.ensures, tt),
  ),
)
