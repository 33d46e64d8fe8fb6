use Rattle.std.proofs.Common.{◌≡◌, ◌∙◌, ◌++◌, ℕ, List, Option, length, ap, map, sym, append-nil, arith}
use Rattle.std.proofs.lemmas.List.{length-map}
use Rattle.std.proofs.lemmas.Result.{on_ok_weaker}
use Rattle.lex_semantics.specs.Spec as S
use Rattle.lexspec.specs.Views.{conditions_in, spec_of}
use Rattle.lexspec_actions.specs.Names.{number_from}
use Rattle.lexspec_actions.specs.Views.{condition_of}
use Rattle.lexlook_specs.proofs.Sounding.{few_conditions}
use Rattle.lexlook_text.specs.DeclaredNames.{declared_name_of}
use Rattle.lexlook_check.specs.Conditions.{numbered_notices}
use Rattle.lexlook_check.proofs.ConditionLaws.{named}
use Rattle.lexlook_check.proofs.conditions.add_declared.Goals as goal

pub number_of-requires : goal.number_of-requires
number_of-requires c =
    let spec = spec_of c.args.spec.now in
    let conds = c.conditions.result.now in
    let some : length (conditions_in spec) ≡ length conds = sym (ap length c.conditions.ensures.conditions) ∙ length-map conds condition_of in
    let few = few_conditions spec c.conditions.ensures.sound in
    omega (arith, some, few)

pub add_numbered-requires : goal.add_numbered-requires
add_numbered-requires c =
    let spec = spec_of c.args.spec.now in
    let conds = c.conditions.result.now in
    let some : length (conditions_in spec) ≡ length conds = sym (ap length c.conditions.ensures.conditions) ∙ length-map conds condition_of in
    let low = c.in-Some.ensures.below in
    omega (arith, some, low)

pub returns-in-None : goal.returns-in-None
returns-in-None c =
    let spec = spec_of c.args.spec.now in
    let conds = c.conditions.result.now in
    let place = declared_name_of c.args.place in
    let numbers = c.in-None.ensures.number
    ∙ ap (λ (ns : List (List ℕ)). number_from 0 ns c.args.place.name.now) (named conds ∙ ap (map (λ (k : S.Condition). k.name)) c.conditions.ensures.conditions) in
    sym (ap (λ (o : Option ℕ). c.args.notices.now.items ++ numbered_notices spec c.args.copied.now place o) (sym numbers) ∙ append-nil _)

pub returns-in-Some : goal.returns-in-Some
returns-in-Some c =
    let spec = spec_of c.args.spec.now in
    let conds = c.conditions.result.now in
    let place = declared_name_of c.args.place in
    let numbers = c.in-Some.ensures.number
    ∙ ap (λ (ns : List (List ℕ)). number_from 0 ns c.args.place.name.now) (named conds ∙ ap (map (λ (k : S.Condition). k.name)) c.conditions.ensures.conditions) in
    on_ok_weaker c.add_numbered.result
    (λ h. h ∙ ap (λ (o : Option ℕ). c.args.notices.now.items ++ numbered_notices spec c.args.copied.now place o) numbers) c.add_numbered.ensures
