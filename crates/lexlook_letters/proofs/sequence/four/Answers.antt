use Rattle.std.proofs.Common.{◌+◌, ◌/◌, arith}
use Rattle.lexlook_letters.proofs.Boxes.{four_words, lead_sound, low_sound}
use Rattle.lexlook_letters.proofs.sequence.four.Goals as goal

pub returns-clause-words : goal.returns-clause-words
returns-clause-words c =
    four_words c.args.first c.args.last _ _ _ _ c.requires.first c.requires.whole c.requires.whole_64 c.requires.whole_4096
    c.byte_range-lead.ensures c.going_on-second.ensures c.going_on-third.ensures c.going_on-fourth.ensures

pub returns-clause-sound : goal.returns-clause-sound
returns-clause-sound c = (
  lead_sound (0xF0 + c.args.first / 64 / 64 / 64) (0xF0 + c.args.last / 64 / 64 / 64) _ (omega arith) (omega arith) c.byte_range-lead.ensures,
  (
    low_sound (c.args.first / 64 / 64) (c.args.last / 64 / 64) _ (omega arith) c.requires.whole_4096 c.going_on-second.ensures,
    (
      low_sound (c.args.first / 64) (c.args.last / 64) _ (omega arith) c.requires.whole_64 c.going_on-third.ensures,
      (low_sound c.args.first c.args.last _ c.requires.order c.requires.whole c.going_on-fourth.ensures, tt),
    ),
  ),
)
