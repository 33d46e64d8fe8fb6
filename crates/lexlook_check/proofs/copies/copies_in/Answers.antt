use Rattle.std.proofs.Common.{◌≡◌, ◌∙◌, ℕ, List, Vec, Global, length, ap, map, sym, arith}
use Rattle.std.proofs.lemmas.List.{length-map}
use Rattle.std.proofs.lemmas.Result.{IfOk-weaker}
use Rattle.lexspec.specs.RuleViews.{rule_of}
use Rattle.lexspec.specs.Views.{conditions_in, spec_of}
use Rattle.lexspec_actions.specs.Views.{condition_of}
use Rattle.lexspec_lines.specs.Lines.{without_returns}
use Rattle.lexlook_specs.proofs.Sounding.{few_conditions}
use Rattle.lexlook_text.specs.DeclaredNames.{declared_conditions, declared_name_of}
use Rattle.lexlook_text.specs.LineViews.{line_of}
use Rattle.lexlook_check.specs.Copies.{copies_from, copies_in}
use Rattle.lexlook_check.specs.Findings.{known_lines}
use Rattle.lexlook_check.specs.declared.findings.Finding.{Finding}
use Rattle.lexlook_check.proofs.CopyLaws.{told_in}
use Rattle.lexlook_check.proofs.copies.copies_in.Goals as goal

pub copies_from-requires : goal.copies_from-requires
copies_from-requires c =
    let spec = spec_of c.args.spec.now in
    let conds = c.conditions.result.now in
    let some : length (conditions_in spec) ≡ length conds = sym (ap length c.conditions.ensures.conditions) ∙ length-map conds condition_of in
    let few = few_conditions spec c.conditions.ensures.sound in
    omega (arith, some, few)

pub returns : goal.returns
returns c =
    let spec = spec_of c.args.spec.now in
    let copied = c.args.copied.now in
    let shown : List ℕ = without_returns c.args.text.now in
    let text : c.as_slice.result.now ≡ shown = c.as_slice.ensures.value ∙ c.in_ok-whole.ensures in
    let lines : map line_of c.as_slice-2.result.now ≡ known_lines shown = ap (map line_of) c.as_slice-2.ensures.value ∙ c.in_ok-lines.ensures ∙ ap known_lines text in
    let places : map declared_name_of c.as_slice-3.result.now ≡ declared_conditions (map line_of c.as_slice-2.result.now) =
    ap (map declared_name_of) c.as_slice-3.ensures.value ∙ c.in_ok-places.ensures in
    let step : (v : Vec Finding Global) → v.items ≡ copies_from (map rule_of c.rules.result.now) copied (map declared_name_of c.as_slice-3.result.now) 0 (map condition_of c.conditions.result.now)
    → v.items ≡ copies_in spec copied c.args.text.now =
    λ v h. told_in spec copied c.args.text.now v.items (map rule_of c.rules.result.now) (map condition_of c.conditions.result.now) (map line_of c.as_slice-2.result.now) (map declared_name_of c.as_slice-3.result.now)
    c.rules.ensures.rules c.conditions.ensures.conditions lines places h in
    IfOk-weaker c.copies_from.result _ _ step c.copies_from.ensures
