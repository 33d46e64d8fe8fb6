use Rattle.std.proofs.Common.{◌≡◌, ◌<◌, ◌↔◌, length, arith, sym, subst, ◌∙◌, ap}
use Rattle.std.proofs.lemmas.List.{length-map}
use Rattle.lex_semantics.specs.Text.{Among}
use Rattle.lexauto_dfa.specs.Accepted.{Accepts}
use Rattle.lexspec.specs.Views.{spec_of}
use Rattle.lexspec.specs.RuleViews.{rule_of}
use Rattle.lexspec.specs.Tests.{sound_conditions, sound_rules}
use Rattle.lexauto_reports.proofs.Accepting.{few_rules, rules_known, useless_by_none}
use Rattle.lexauto_reports.proofs.useless.useless_rules.Goals as goal

pub unaccepted_rules-requires : goal.unaccepted_rules-requires
unaccepted_rules-requires c =
    let S = spec_of c.args.spec.now in
    let same : length c.rules.result.now ≡ length S.rules = sym (length-map c.rules.result.now rule_of) ∙ ap length c.rules.ensures.rules in
    let few = few_rules (length S.conditions) (length S.rules) (sound_conditions S.conditions) (sound_rules (length S.conditions) S.rules) c.rules.ensures.sound in
    record {
      known = λ s i h a. subst (λ n. i < n) (sym same) (rules_known c.args.dfa.now.parts c.args.dfa.now.lawful S c.requires.conditions c.requires.table s i h a);
      few = omega (arith, few, same);
    }

pub returns-clause-useless : goal.returns-clause-useless
returns-clause-useless c = λ i.
    let S = spec_of c.args.spec.now in
    let same : length c.rules.result.now ≡ length S.rules = sym (length-map c.rules.result.now rule_of) ∙ ap length c.rules.ensures.rules in
    let by_none = useless_by_none c.args.dfa.now.parts c.args.dfa.now.lawful S c.requires.conditions c.requires.table i in
    let unaccepted = subst (λ n. Among c.in_ok-useless.useless.items i ↔ ((i < n) × (Accepts c.args.dfa.now i → ⊥))) same (c.in_ok-useless.ensures.unaccepted i) in
    (λ a. by_none.0 (unaccepted.0 a), λ u. unaccepted.1 (by_none.1 u))
