-- What an `<<EOF>>` rule of the code stands for.
use Rattle.std.specs.Prelude.{option_map}
use Rattle.lexspec_actions.specs.Views.{end_action_of}
use Rattle.lexspec.specs.RuleItems.{EndRule}
use Rattle.lexspec.specs.declared.endings.EndRule.{EndRule as EndRuleKept}

-- the numbers of its conditions and its action
abbrev pub end_rule_of : EndRuleKept → EndRule
end_rule_of e = (option_map (λ v. v.items) e.conditions, end_action_of e.action)
