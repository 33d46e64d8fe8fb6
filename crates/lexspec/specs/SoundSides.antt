-- Rules that are read so far, with sound trees on their sides.
use Rattle.std.specs.Prelude.{map}
use Rattle.lex_semantics.specs.Sound.{HasSoundSides, HaveSoundSides}
use Rattle.lexspec.specs.RuleViews.{rule_of}
use Rattle.lexspec.specs.declared.rules_so_far.RulesSoFar.{RulesSoFar}
use Rattle.lexspec.specs.declared.rule_text.Front.{Front}
use Rattle.lexspec.specs.declared.rule_text.Front.TheVariants as F

abbrev pub HasSoundFront : Front → Type 0
HasSoundFront (F.Matching r) = HasSoundSides (rule_of r)
HasSoundFront (F.AtEnd numbers) = Unit {0}

-- the rules that are read so far, and those that wait
abbrev pub HasSoundRules : RulesSoFar → Type 0
HasSoundRules s = HaveSoundSides (map rule_of s.rules.items) × HaveSoundSides (map rule_of s.waiting.items)
