use Rattle.std.proofs.Common.{◌≡◌, ◌∙◌, ◌<◌, Bool, List, Some, length, ap, map, sym, arith}
use Rattle.std.specs.Prelude.{slice_get}
use Rattle.std.proofs.lemmas.List.{length-map}
use Rattle.lex_semantics.specs.Spec as S
use Rattle.lexspec.specs.Views.{conditions_in, rules_in, spec_of}
use Rattle.lexspec_actions.specs.Views.{condition_of}
use Rattle.lexlook_check.specs.Conditions.{is_entered, is_left, notice_if}
use Rattle.lexlook_check.proofs.ConditionLaws.{numbered}
use Rattle.lexlook_check.proofs.conditions.condition_notice.Goals as goal

pub returns : goal.returns
returns c =
    let spec = spec_of c.args.spec.now in
    let n = c.args.number in
    let conds = c.conditions.result.now in
    let item = c.index-conditions-number.result in
    let are : map condition_of conds ≡ conditions_in spec = c.conditions.ensures.conditions in
    let some : length (conditions_in spec) ≡ length conds = sym (ap length are) ∙ length-map conds condition_of in
    let low : n < length conds = let r = c.requires in omega (arith, some, r) in
    let there : slice_get (conditions_in spec) n ≡ Some (condition_of item) =
    ap (λ (cs : List S.Condition). slice_get cs n) (sym are) ∙ numbered conds n item low c.index-conditions-number.is in
    let entered : c.is_entered-entered.result ≡ is_entered (rules_in spec) n = c.is_entered-entered.ensures ∙ ap (λ (rs : List S.Rule). is_entered rs n) c.rules.ensures.rules in
    let left : c.is_left-left.result ≡ is_left (rules_in spec) n (slice_get (conditions_in spec) n) =
    c.is_left-left.ensures ∙ ap (λ (rs : List S.Rule). is_left rs n (Some (condition_of item))) c.rules-2.ensures.rules ∙ ap (is_left (rules_in spec) n) (sym there) in
    c.notice_if.ensures ∙ ap (λ (b : Bool). notice_if b c.is_left-left.result) entered ∙ ap (notice_if (is_entered (rules_in spec) n)) left
