use Rattle.std.proofs.Common.{◌≡◌, ◌∙◌, ◌<◌, Bool, List, Option, Some, length, ap, map, sym, arith}
use Rattle.std.specs.Prelude.{slice_get}
use Rattle.std.proofs.lemmas.List.{length-map}
use Rattle.lex_semantics.specs.Spec as S
use Rattle.lexspec.specs.Views.{conditions_in, rules_in, spec_of}
use Rattle.lexspec_actions.specs.Views.{condition_of}
use Rattle.lexlook_check.specs.Conditions.{copy_if, is_entered, is_exclusive}
use Rattle.lexlook_check.proofs.ConditionLaws.{numbered}
use Rattle.lexlook_check.proofs.conditions.copied_notice.Goals as goal

pub returns : goal.returns
returns c =
    let spec = spec_of c.args.spec.now in
    let n = c.args.number in
    let conds = c.conditions.result.now in
    let item = c.index-conditions-number.result in
    let are : map condition_of conds ≡ conditions_in spec = c.conditions.ensures.conditions in
    let some : length (conditions_in spec) ≡ length conds = sym (ap length are) ∙ length-map conds condition_of in
    let low : n < length conds = let r = c.requires in omega (arith, some, r) in
    let there : slice_get (conditions_in spec) n ≡ Some (condition_of item) =
    ap (λ (cs : List S.Condition). slice_get cs n) (sym are) ∙ numbered conds n item low c.index-conditions-number.is in
    let entered : c.is_entered-entered.result ≡ is_entered (rules_in spec) n = c.is_entered-entered.ensures ∙ ap (λ (rs : List S.Rule). is_entered rs n) c.rules.ensures.rules in
    c.copy_if.ensures ∙ ap (λ (b : Bool). copy_if item.exclusive b c.byte_of.result) entered
    ∙ ap (λ (k : Option S.Condition). copy_if (is_exclusive k) (is_entered (rules_in spec) n) c.byte_of.result) (sym there)
    ∙ ap (copy_if (is_exclusive (slice_get (conditions_in spec) n)) (is_entered (rules_in spec) n)) c.byte_of.ensures
