-- What a specification of the code stands for.
use Rattle.std.specs.Prelude.{ℕ, List, map}
use Rattle.lex_semantics.specs.Spec as S
use Rattle.lexspec_actions.specs.Views.{condition_of}
use Rattle.lexspec.specs.RuleViews.{rule_of}
use Rattle.lexspec.specs.declared.spec.Spec.{Spec}

abbrev pub spec_of : Spec → S.Spec
spec_of s = record { conditions = map condition_of s.conditions.items; rules = map rule_of s.rules.items }

-- the lines where code was skipped
abbrev pub skipped_in : Spec → List ℕ
skipped_in s = s.skipped.items

abbrev pub conditions_in : S.Spec → List S.Condition
conditions_in s = s.conditions

abbrev pub rules_in : S.Spec → List S.Rule
rules_in s = s.rules
