use Rattle.std.proofs.Common.{rules, ◌≡◌, ◌<◌, ◌≤◌, ◌++◌, ◌∷◌, [], length, true, map, sym, subst, ap, ◌∙◌, arith}
use Rattle.std.specs.Prelude.{nat_lt}
use Rattle.std.proofs.lemmas.Bool.{and_from, lt-ltb}
use Rattle.std.proofs.lemmas.List.{length-map, map-append}
use Rattle.lex_semantics.specs.Limits.{max_rules}
use Rattle.lex_semantics.specs.Spec as S
use Rattle.lexspec.specs.RuleViews.{rule_of}
use Rattle.lexspec.specs.Tests.{is_sound}
use Rattle.lexspec.specs.Views.{spec_of}
use Rattle.lexspec_actions.specs.Views.{condition_of}
use Rattle.lexspec.proofs.TestLaws.{spec_is_sound}
use Rattle.lexlook_specs.specs.Traced.{are_short, default_rule, has_room, traced, traced_rule}
use Rattle.lexlook_specs.proofs.Sounding.{few_conditions, traced_sound}
use Rattle.lexlook_specs.proofs.Turning as Turning
use Rattle.lexlook_specs.proofs.trace.tracing.traced.Goals as goal

pub returns-clause-turns : goal.returns-clause-turns
returns-clause-turns c = Turning.tells_turns (spec_of c.args.spec) (spec_is_sound (spec_of c.args.spec) c.into_parts-conditions.ensures.sound)

pub returns-clause-runs : goal.returns-clause-runs
returns-clause-runs c = Turning.tells_runs (spec_of c.args.spec) (spec_is_sound (spec_of c.args.spec) c.into_parts-conditions.ensures.sound)

pub new-requires : goal.new-requires
new-requires c =
    let spec : S.Spec = spec_of c.args.spec in
    let rules_were : map rule_of c.into_parts-conditions.result.1.items ≡ spec.rules = c.into_parts-conditions.ensures.rules in
    let short : are_short (map rule_of c.into_parts-conditions.result.1.items) ≡ true = search rules in
    let few : length spec.rules < max_rules =
    (let e = length-map c.into_parts-conditions.result.1.items rule_of in omega (arith, e, ap length rules_were, c.if-len-ge-MAX_RULES.false, c.len.ensures)) in
    let room : has_room spec ≡ true = and_from (nat_lt (length spec.rules) max_rules) (are_short spec.rules) (lt-ltb (length spec.rules) max_rules few) (subst (λ z. are_short z ≡ true) rules_were short) in
    let told : map rule_of c.in_ok-told.told.items ≡ map traced_rule (map rule_of c.into_parts-conditions.result.1.items) = search rules in
    let pushed : map rule_of c.push.new.self.items ≡ map rule_of c.in_ok-told.told.items ++ rule_of c.in_ok-default_rule.field-0 ∷ [] =
    ap (map rule_of) c.in_ok-push.ensures.items ∙ map-append rule_of c.in_ok-told.told.items (c.in_ok-default_rule.field-0 ∷ []) in
    let last : rule_of c.in_ok-default_rule.field-0 ≡ default_rule (length spec.conditions) =
    (let small : length spec.conditions ≤ 255 = few_conditions spec c.into_parts-conditions.ensures.sound in let size = length-map c.into_parts-conditions.result.0.items condition_of in
    let were : length spec.conditions ≡ length c.into_parts-conditions.result.0.items = sym (ap length c.into_parts-conditions.ensures.conditions) ∙ size in
    let few : length c.into_parts-conditions.result.0.items < 256 = omega (arith, small, were) in
    let read : rule_of c.in_ok-default_rule.field-0 ≡ default_rule (length c.into_parts-conditions.result.0.items) = search rules in
    read ∙ ap default_rule (sym were)) in
    let rules_are : map rule_of c.push.new.self.items ≡ (traced spec).rules =
    pushed ∙ ap (λ z. z ++ rule_of c.in_ok-default_rule.field-0 ∷ []) (told ∙ ap (map traced_rule) rules_were) ∙ ap (λ z. map traced_rule spec.rules ++ z ∷ []) last in
    let conditions_are : map condition_of c.in_ok-ends.ends.items ≡ (traced spec).conditions = search rules in
    ap (λ z. is_sound (record { conditions = z; rules = map rule_of c.push.new.self.items })) conditions_are
    ∙ ap (λ z. is_sound (record { conditions = (traced spec).conditions; rules = z })) rules_are
    ∙ traced_sound spec c.into_parts-conditions.ensures.sound room
