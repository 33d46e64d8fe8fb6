use Rattle.std.proofs.Common.{◌≡◌, true, map, sym, subst, ap, ◌∙◌}
use Rattle.lex_semantics.specs.Spec as S
use Rattle.lexspec.specs.RuleViews.{rule_of}
use Rattle.lexspec.specs.Tests.{is_sound}
use Rattle.lexspec.specs.Views.{spec_of}
use Rattle.lexlook_specs.specs.Rejecting.{rejecting_rule}
use Rattle.lexlook_specs.proofs.Rejected.{rejecting_sound}
use Rattle.lexlook_specs.proofs.words.actions.rejecting.Goals as goal

pub new-requires : goal.new-requires
new-requires c =
    let spec : S.Spec = spec_of c.args.spec in
    let rules_are : map rule_of c.in_ok-rules.rules.items ≡ map rejecting_rule spec.rules = c.in_ok-rules.ensures ∙ ap (map rejecting_rule) c.into_parts-conditions.ensures.rules in
    subst (λ ks. is_sound (record { conditions = ks; rules = map rule_of c.in_ok-rules.rules.items }) ≡ true) (sym c.into_parts-conditions.ensures.conditions)
    (subst (λ rs. is_sound (record { conditions = spec.conditions; rules = rs }) ≡ true) (sym rules_are) (rejecting_sound spec c.into_parts-conditions.ensures.sound))
