use Rattle.std.proofs.Common.{◌<◌, ◌++◌, ◌^◌, drop, map}
use Rattle.lex_semantics.specs.Sound.{HaveSoundSides}
use Rattle.lex_semantics.specs.Subsets.{all_positions}
use Rattle.lexspec.specs.RuleViews.{rule_of}
use Rattle.lexauto_positions.specs.Laid.{shape_of, AlikeRules, HaveSized}
use Rattle.lexauto_positions.proofs.rules.lay_rules.Given as goal

abbrev pub invariant-loop-rule : goal.invariant-loop-rule
invariant-loop-rule l = record {
  sound : HaveSoundSides (map rule_of (drop l.rule-index l.rules));
  few : all_positions (map rule_of (drop l.rule-index l.rules)) < 2 ^ 32;
  sized : HaveSized l.laid.items;
  alike : AlikeRules (map shape_of l.laid.items ++ map rule_of (drop l.rule-index l.rules)) (map rule_of l.rules);
}
