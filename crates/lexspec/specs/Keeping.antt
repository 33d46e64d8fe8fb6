-- What the rules that are read so far keep to.
use Rattle.std.specs.Prelude.{◌+◌, ◌<◌, ◌≤◌, map, length}
use Rattle.lexspec.specs.Files.{AreSingle}
use Rattle.lexspec.specs.SoundSides.{HasSoundRules}
use Rattle.lexspec.specs.EndRules.{end_rule_of}
use Rattle.lexspec_lines.specs.declared.declarations.Declarations.{Declarations}
use Rattle.lexspec.specs.declared.rule_text.Front.{Front}
use Rattle.lexspec.specs.declared.rule_text.Front.TheVariants as F
use Rattle.lexspec.specs.declared.rules_so_far.RulesSoFar.{RulesSoFar}
use Rattle.lex_semantics.specs.Limits.{max_rules}

-- there is room for one rule more; an `<<EOF>>` rule needs none
abbrev pub HasRoom : Front → RulesSoFar → Type 0
HasRoom (F.Matching r) s = length s.rules.items + length s.waiting.items < max_rules
HasRoom (F.AtEnd numbers) s = Unit {0}

-- their sides are sound, no condition has two ends, and with those that wait there are few
pub record Keeps (d : Declarations) (s : RulesSoFar) : Type 0 where
  pub sound : HasSoundRules s
  pub single : AreSingle (length d.conditions.items) (map end_rule_of s.ends.items)
  pub few : length s.rules.items + length s.waiting.items ≤ max_rules
